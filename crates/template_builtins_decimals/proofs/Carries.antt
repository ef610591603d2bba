-- Digits that are counted up.
use Rattle.std.proofs.Common.{arith, ◌≡◌, ◌≢◌, ℕ, zero, suc, ◌+◌, ◌-◌, ◌*◌, ◌%◌, ◌^◌, ◌<◌, Bool, cond, List, [], ◌∷◌, length, take, drop, set, get_or, sym, ap, subst, ◌∙◌, add-one, length-drop}
use Rattle.std.proofs.lemmas.Bool.Decides.{nat_tests}
use Rattle.std.proofs.lemmas.List.{length-set, get_or-set_other}
use Rattle.std.proofs.Math.Nat.{pow-suc, suc-mul}
use Rattle.std.specs.Char.{digit_value}
use Rattle.std.specs.Str.Parse.{AllDigits, digits_value}
use Rattle.template_builtins_decimals.specs.Rounding.{adds_unit, units_in}
use Rattle.template_builtins_decimals.specs.declared.rounding.Method.{Method}
use Rattle.template_builtins_decimals.proofs.Values.{value_cons, cut_quotient, cut_rest}

-- a digit at a place counts ten to the power of the number of digits behind it
value_set : (s : List ℕ) (i c : ℕ) → i < length s
    → digits_value 10 (set s i c) + digit_value (get_or s i 0) * 10 ^ (length s - 1 - i) ≡ digits_value 10 s + digit_value c * 10 ^ (length s - 1 - i)
value_set [] i c h = absurd (omega arith)
value_set (x ∷ xs) zero c h =
    let P : ℕ → Type 0 = λ m. digits_value 10 (c ∷ xs) + digit_value x * 10 ^ m ≡ digits_value 10 (x ∷ xs) + digit_value c * 10 ^ m in
    let whole : length xs ≡ length (x ∷ xs) - 1 - 0 = omega arith in
    subst P whole (omega (arith, value_cons c xs, value_cons x xs))
value_set (x ∷ xs) (suc i) c h =
    let P : ℕ → Type 0 = λ m. digits_value 10 (x ∷ set xs i c) + digit_value (get_or xs i 0) * 10 ^ m ≡ digits_value 10 (x ∷ xs) + digit_value c * 10 ^ m in
    let behind : length xs - 1 - i ≡ length (x ∷ xs) - 1 - suc i = omega arith in
    let same : digits_value 10 (x ∷ set xs i c) ≡ digit_value x * 10 ^ length xs + digits_value 10 (set xs i c) =
    value_cons x (set xs i c) ∙ ap (λ (m : ℕ). digit_value x * 10 ^ m + digits_value 10 (set xs i c)) (length-set xs i c) in
    let rest = value_set xs i c (omega arith) in
    subst P behind (omega (arith, same, value_cons x xs, rest))

pub not_first : (s : List ℕ) (i : ℕ) → get_or s 0 0 ≡ 48 → get_or s i 0 ≡ 57 → 0 < i
not_first s zero h k = absurd (omega arith)
not_first s (suc i) h k = omega arith

pub first_stays : (s : List ℕ) (i c : ℕ) → 0 < i → get_or s 0 0 ≡ 48 → get_or (set s i c) 0 0 ≡ 48
first_stays s i c some h = get_or-set_other s i 0 c 0 (λ e. absurd (omega arith)) ∙ h

-- a nine becomes 0, and one is carried to the digit before it
pub carry_goes : (s : List ℕ) (i v : ℕ) → 0 < i → i < length s → get_or s i 0 ≡ 57 → digits_value 10 s + 10 ^ (length s - 1 - i) ≡ v
    → digits_value 10 (set s i 48) + 10 ^ (length (set s i 48) - 1 - (i - 1)) ≡ v
carry_goes s i v some h nine is =
    let before : length (set s i 48) - 1 - (i - 1) ≡ suc (length s - 1 - i) = omega (arith, length-set s i 48) in
    let power : 10 ^ (length (set s i 48) - 1 - (i - 1)) ≡ 10 ^ (length s - 1 - i) * 10 = ap (λ (m : ℕ). 10 ^ m) before ∙ pow-suc 10 (length s - 1 - i) in
    let counts : digit_value (get_or s i 0) ≡ 9 = ap digit_value nine in
    let product : digit_value (get_or s i 0) * 10 ^ (length s - 1 - i) ≡ 9 * 10 ^ (length s - 1 - i) = ap (λ (m : ℕ). m * 10 ^ (length s - 1 - i)) counts in
    omega (arith, value_set s i 48 h, power, product, is)

pub digit_more : (c : ℕ) → digit_value c < 10 → c ≢ 57 → digit_value (c + 1) ≡ digit_value c + 1
digit_more c h other = grind (arith, nat_tests)

pub digit_more_below : (c : ℕ) → digit_value c < 10 → c ≢ 57 → digit_value (c + 1) < 10
digit_more_below c h other = grind (arith, nat_tests)

pub one_more : (d t : ℕ) → (d + 1) * t ≡ d * t + t
one_more d t = ap (λ (m : ℕ). m * t) (add-one d) ∙ suc-mul d t

-- another digit counts one more
pub carry_ends : (s : List ℕ) (i c v : ℕ) → i < length s → c ≡ get_or s i 0 → digit_value c < 10 → c ≢ 57 → digits_value 10 s + 10 ^ (length s - 1 - i) ≡ v
    → digits_value 10 (set s i (c + 1)) ≡ v
carry_ends s i c v h stands digit other is =
    let old : digit_value (get_or s i 0) * 10 ^ (length s - 1 - i) ≡ digit_value c * 10 ^ (length s - 1 - i) = ap (λ (d : ℕ). digit_value d * 10 ^ (length s - 1 - i)) (sym stands) in
    let new : digit_value (c + 1) * 10 ^ (length s - 1 - i) ≡ (digit_value c + 1) * 10 ^ (length s - 1 - i) = ap (λ (m : ℕ). m * 10 ^ (length s - 1 - i)) (digit_more c digit other) in
    let more : (digit_value c + 1) * 10 ^ (length s - 1 - i) ≡ digit_value c * 10 ^ (length s - 1 - i) + 10 ^ (length s - 1 - i) = one_more (digit_value c) (10 ^ (length s - 1 - i)) in
    omega (arith, value_set s i (c + 1) h, old, new, more, is)

-- the digits that are kept, and one more where what is cut off adds it, are the units
pub round_value : (method : Method) (negative : Bool) (s : List ℕ) (kept cut : ℕ) (adds : Bool) (after : ℕ) → AllDigits 10 s → kept + cut ≡ length s
    → adds ≡ adds_unit method negative (digits_value 10 (drop kept s)) (10 ^ length (drop kept s)) → after ≡ digits_value 10 (take kept s) + cond adds 1 0
    → after ≡ units_in method negative (digits_value 10 s) (10 ^ cut)
unfolding units_in
round_value method negative s kept cut adds after digits h is value =
    let quotient = cut_quotient s kept cut digits h in
    let rest = cut_rest s kept cut digits h in
    let size : length (drop kept s) ≡ cut = omega (arith, length-drop kept s) in
    let same : adds_unit method negative (digits_value 10 (drop kept s)) (10 ^ length (drop kept s)) ≡ adds_unit method negative (digits_value 10 s % 10 ^ cut) (10 ^ cut) =
    ap (λ (m : ℕ). adds_unit method negative (digits_value 10 (drop kept s)) (10 ^ m)) size
    ∙ ap (λ (m : ℕ). adds_unit method negative m (10 ^ cut)) (sym rest) in
    value
    ∙ ap (λ (b : Bool). digits_value 10 (take kept s) + cond b 1 0) (is ∙ same)
    ∙ ap (λ (m : ℕ). m + cond (adds_unit method negative (digits_value 10 s % 10 ^ cut) (10 ^ cut)) 1 0) (sym quotient)

pub carry_begins : (s : List ℕ) (i : ℕ) → i ≡ length s - 1 → digits_value 10 s + 10 ^ (length s - 1 - i) ≡ digits_value 10 s + 1
carry_begins s i h =
    let none : length s - 1 - i ≡ 0 = omega arith in
    ap (λ (m : ℕ). digits_value 10 s + 10 ^ m) none
