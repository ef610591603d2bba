-- The numbers that digits write.
use Rattle.std.proofs.Common.{arith, ◌≡◌, ◌≢◌, ℕ, zero, suc, ◌+◌, ◌*◌, ◌/◌, ◌%◌, ◌^◌, ◌<◌, Bool, true, false, not, ltb, eqb, ◌||◌, List, [], ◌∷◌, ◌++◌, length, take, drop, replicate, refl, sym, ap, subst, ◌∙◌, zero-add, add-zero, length-drop}
use Rattle.std.proofs.lemmas.Bool.Decides.{nat_tests}
use Rattle.std.proofs.lemmas.Int.Digits.{digits_value-lt}
use Rattle.std.proofs.lemmas.List.{append_assoc, length-replicate, take-append-drop}
use Rattle.std.proofs.lemmas.Nat.{div-mul-add, mod-mul-add}
use Rattle.std.proofs.Math.Nat.{add-mul, le-mul_of_pos_right, mul_assoc, mul_comm, one-le-pow, pow-suc}
use Rattle.std.specs.Char.{digit_value}
use Rattle.std.specs.List.{list_any}
use Rattle.std.specs.Str.Parse.{AllDigits, digits_value, digits_value_after}
use Rattle.template_builtins_decimals.proofs.Digits.{digits_drop}

shifted : (n d t v : ℕ) → (n * 10 + d) * t + v ≡ n * (t * 10) + ((0 * 10 + d) * t + v)
shifted n d t v =
    let parts : (n * 10 + d) * t ≡ n * 10 * t + d * t = add-mul (n * 10) d t in
    let turned : n * 10 * t ≡ n * (t * 10) = mul_assoc n 10 t ∙ ap (λ (m : ℕ). n * m) (mul_comm 10 t) in
    let alone : (0 * 10 + d) * t ≡ d * t = ap (λ (m : ℕ). m * t) (zero-add d) in
    omega (arith, parts, turned, alone)

-- digits that follow those of a number
pub value_after : (n : ℕ) (s : List ℕ) → digits_value_after 10 n s ≡ n * 10 ^ length s + digits_value 10 s
value_after n [] = omega arith
value_after n (c ∷ cs) =
    let power : 10 ^ length (c ∷ cs) ≡ 10 ^ length cs * 10 = pow-suc 10 (length cs) in
    value_after (n * 10 + digit_value c) cs
    ∙ shifted n (digit_value c) (10 ^ length cs) (digits_value 10 cs)
    ∙ ap (λ (m : ℕ). n * m + ((0 * 10 + digit_value c) * 10 ^ length cs + digits_value 10 cs)) (sym power)
    ∙ ap (λ (m : ℕ). n * 10 ^ length (c ∷ cs) + m) (sym (value_after (0 * 10 + digit_value c) cs))

pub value_cons : (c : ℕ) (cs : List ℕ) → digits_value 10 (c ∷ cs) ≡ digit_value c * 10 ^ length cs + digits_value 10 cs
value_cons c cs =
    value_after (0 * 10 + digit_value c) cs ∙ ap (λ (m : ℕ). m * 10 ^ length cs + digits_value 10 cs) (zero-add (digit_value c))

after_append : (n : ℕ) (xs ys : List ℕ) → digits_value_after 10 n (xs ++ ys) ≡ digits_value_after 10 (digits_value_after 10 n xs) ys
after_append n [] ys = refl
after_append n (x ∷ xs) ys = after_append (n * 10 + digit_value x) xs ys

pub value_append : (xs ys : List ℕ) → digits_value 10 (xs ++ ys) ≡ digits_value 10 xs * 10 ^ length ys + digits_value 10 ys
value_append xs ys = after_append 0 xs ys ∙ value_after (digits_value 10 xs) ys

pub value_zeros : (k : ℕ) → digits_value 10 (replicate k 48) ≡ 0
value_zeros zero = refl
value_zeros (suc k) = value_zeros k

pub value_front_zeros : (k : ℕ) (s : List ℕ) → digits_value 10 (replicate k 48 ++ s) ≡ digits_value 10 s
value_front_zeros zero s = refl
value_front_zeros (suc k) s = value_front_zeros k s

pub value_end_zeros : (s : List ℕ) (k : ℕ) → digits_value 10 (s ++ replicate k 48) ≡ digits_value 10 s * 10 ^ k
value_end_zeros s k =
    value_append s (replicate k 48)
    ∙ ap (λ (m : ℕ). digits_value 10 s * 10 ^ m + digits_value 10 (replicate k 48)) (length-replicate k 48)
    ∙ ap (λ (m : ℕ). digits_value 10 s * 10 ^ k + m) (value_zeros k)
    ∙ add-zero (digits_value 10 s * 10 ^ k)

-- digits behind zeros and before zeros
pub value_between : (front back : ℕ) (xs ys : List ℕ) → digits_value 10 (((replicate front 48 ++ xs) ++ ys) ++ replicate back 48) ≡ digits_value 10 (xs ++ ys) * 10 ^ back
value_between front back xs ys =
    value_end_zeros ((replicate front 48 ++ xs) ++ ys) back
    ∙ ap (λ (s : List ℕ). digits_value 10 s * 10 ^ back) (append_assoc (replicate front 48) xs ys)
    ∙ ap (λ (m : ℕ). m * 10 ^ back) (value_front_zeros front (xs ++ ys))

length_rest : (s : List ℕ) (kept k : ℕ) → kept + k ≡ length s → length (drop kept s) ≡ k
length_rest s kept k h = omega (arith, length-drop kept s)

parts : (s : List ℕ) (kept k : ℕ) → kept + k ≡ length s → digits_value 10 s ≡ digits_value 10 (take kept s) * 10 ^ k + digits_value 10 (drop kept s)
parts s kept k h =
    ap (digits_value 10) (sym (take-append-drop kept s))
    ∙ value_append (take kept s) (drop kept s)
    ∙ ap (λ (m : ℕ). digits_value 10 (take kept s) * 10 ^ m + digits_value 10 (drop kept s)) (length_rest s kept k h)

rest_below : (s : List ℕ) (kept k : ℕ) → AllDigits 10 s → kept + k ≡ length s → digits_value 10 (drop kept s) < 10 ^ k
rest_below s kept k d h =
    let P : ℕ → Type 0 = λ m. digits_value 10 (drop kept s) < 10 ^ m in
    subst P (length_rest s kept k h) (digits_value-lt 10 (drop kept s) (digits_drop kept s d))

-- the last digits are what is left of the division by ten to the power of their number
pub cut_quotient : (s : List ℕ) (kept k : ℕ) → AllDigits 10 s → kept + k ≡ length s → digits_value 10 s / 10 ^ k ≡ digits_value 10 (take kept s)
cut_quotient s kept k d h =
    ap (λ (m : ℕ). m / 10 ^ k) (parts s kept k h)
    ∙ div-mul-add (digits_value 10 (take kept s)) (10 ^ k) (digits_value 10 (drop kept s)) (rest_below s kept k d h)

pub cut_rest : (s : List ℕ) (kept k : ℕ) → AllDigits 10 s → kept + k ≡ length s → digits_value 10 s % 10 ^ k ≡ digits_value 10 (drop kept s)
cut_rest s kept k d h =
    ap (λ (m : ℕ). m % 10 ^ k) (parts s kept k h)
    ∙ mod-mul-add (digits_value 10 (take kept s)) (10 ^ k) (digits_value 10 (drop kept s)) (rest_below s kept k d h)

pub value_more : (c : ℕ) (cs : List ℕ) → 0 < digit_value c → 0 < digits_value 10 (c ∷ cs)
value_more c cs h =
    let power : 0 < 10 ^ length cs = one-le-pow (length cs) 10 (omega arith) in
    let most = le-mul_of_pos_right (digit_value c) power in
    omega (arith, value_cons c cs, most)

pub zero_digit : (c : ℕ) → digit_value c < 10 → c ≢ 48 → 0 < digit_value c
zero_digit c h other = grind (arith, nat_tests)

any_by : (b : Bool) (c : ℕ) (cs : List ℕ) → eqb c 48 ≡ b → digit_value c < 10 → list_any (λ d. not (eqb d 48)) cs ≡ ltb 0 (digits_value 10 cs)
    → (not b || list_any (λ d. not (eqb d 48)) cs) ≡ ltb 0 (digits_value 10 (c ∷ cs))
any_by true c cs e h rest =
    let is : c ≡ 48 = grind (arith, nat_tests) in
    rest ∙ ap (λ (d : ℕ). ltb 0 (digits_value 10 (d ∷ cs))) (sym is)
any_by false c cs e h rest =
    let other : c ≢ 48 = grind (arith, nat_tests) in
    let more = value_more c cs (zero_digit c h other) in
    grind (arith, nat_tests, more)

-- digits write more than 0 where one of them is another than 0
pub more_is_any : (s : List ℕ) → AllDigits 10 s → list_any (λ c. not (eqb c 48)) s ≡ ltb 0 (digits_value 10 s)
more_is_any [] h = refl
more_is_any (c ∷ cs) h = any_by (eqb c 48) c cs refl h.0 (more_is_any cs h.1)
