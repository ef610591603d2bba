-- The texts of the numbers that digits write.
use Rattle.std.proofs.Common.{arith, ◌≡◌, ◌≢◌, ℕ, zero, suc, ◌+◌, ◌-◌, ◌*◌, ◌/◌, ◌%◌, ◌^◌, ◌<◌, ◌≤◌, Bool, true, false, cond, eqb, ◌&&◌, List, [], ◌∷◌, ◌++◌, length, map, take, drop, get_or, refl, sym, ap, subst, ◌∙◌, inl, inr, add-one, add-zero, length-append, length-drop}
use Rattle.std.proofs.lemmas.Bool.{cases_eq, cond-false, ne_eqb}
use Rattle.std.proofs.lemmas.Bool.Decides.{nat_tests}
use Rattle.std.proofs.lemmas.Int.Digits.{digits_of_step, digits_value_more, digits_value_push}
use Rattle.std.proofs.lemmas.List.{append_assoc, at_drop_more, get_or-drop, map_push, take-append-drop, take_all, take_more}
use Rattle.std.specs.Char.{digit_value}
use Rattle.std.specs.Int.Digits.{digits_of}
use Rattle.std.specs.Str.Parse.{AllDigits, digits_value}
use Rattle.template_builtins_decimals.specs.Fixed.{at_least_one, figure, fixed_text, last_digits, number_text, sign, without_zeros}
use Rattle.template_builtins_decimals.proofs.Digits.{digit_of, digits_drop}
use Rattle.template_builtins_decimals.proofs.Values.{value_more, zero_digit, cut_quotient}

digit_is : (c : ℕ) → digit_value c < 10 → 48 + digit_value c ≡ c
digit_is c h = grind (arith, nat_tests)

-- one digit more
text_more : (v c n : ℕ) → digit_value c < 10 → n ≡ v * 10 + digit_value c → 0 < n
    → map (λ d. 48 + d) (digits_of 10 n) ≡ map (λ d. 48 + d) (digits_of 10 v) ++ c ∷ []
text_more v c n digit is some =
    let quotient : n / 10 ≡ v = omega arith in
    let rest : n % 10 ≡ digit_value c = omega arith in
    ap (map (λ (d : ℕ). 48 + d)) (digits_of_step 10 n (omega arith) some)
    ∙ map_push (λ (d : ℕ). 48 + d) (digits_of 10 (n / 10)) (n % 10)
    ∙ ap (λ (m : ℕ). map (λ (d : ℕ). 48 + d) (digits_of 10 m) ++ (48 + n % 10) ∷ []) quotient
    ∙ ap (λ (m : ℕ). map (λ (d : ℕ). 48 + d) (digits_of 10 v) ++ (48 + m) ∷ []) rest
    ∙ ap (λ (m : ℕ). map (λ (d : ℕ). 48 + d) (digits_of 10 v) ++ m ∷ []) (digit_is c digit)

first_more : (s : List ℕ) (k : ℕ) → 0 < digit_value (get_or s 0 0) → 0 < length s → 0 < digits_value 10 (take (k + 1) s)
first_more [] k h some = absurd (omega arith)
first_more (x ∷ xs) k h some =
    let P : ℕ → Type 0 = λ m. 0 < digits_value 10 (take m (x ∷ xs)) in
    subst P (sym (add-one k)) (value_more x (take k xs) h)

front_text : (s : List ℕ) (k : ℕ) → AllDigits 10 s → 0 < digit_value (get_or s 0 0) → k ≤ length s
    → map (λ d. 48 + d) (digits_of 10 (digits_value 10 (take k s))) ≡ take k s
front_text s zero d h l = refl
front_text s (suc k) d h l =
    let P : ℕ → Type 0 = λ m. map (λ d. 48 + d) (digits_of 10 (digits_value 10 (take m s))) ≡ take m s in
    let within : k < length s = omega arith in
    let next =
    text_more (digits_value 10 (take k s)) (get_or s k 0) (digits_value 10 (take (k + 1) s)) (digit_of s k d within) (digits_value_more 10 s k within) (first_more s k h (omega arith))
    ∙ ap (λ (t : List ℕ). t ++ get_or s k 0 ∷ []) (front_text s k d h (omega arith))
    ∙ sym (take_more s k 0 within) in
    subst P (add-one k) next

first_all : (s : List ℕ) → 0 < digit_value (get_or s 0 0) → 0 < length s → 0 < digits_value 10 s
first_all [] h some = absurd (omega arith)
first_all (x ∷ xs) h some = value_more x xs h

zero_text : number_text 0 ≡ 48 ∷ []
unfolding number_text
zero_text = refl

number_by : (n : ℕ) → 0 < n → number_text n ≡ map (λ d. 48 + d) (digits_of 10 n)
unfolding number_text
number_by n some = cond-false (eqb n 0) _ _ (ne_eqb n 0 (λ e. absurd (omega arith)))

-- digits that begin with another than 0 are those of their number
pub number_first : (s : List ℕ) → AllDigits 10 s → 0 < length s → get_or s 0 0 ≢ 48 → number_text (digits_value 10 s) ≡ s
number_first s d some other =
    let first = zero_digit (get_or s 0 0) (digit_of s 0 d some) other in
    let all : take (length s) s ≡ s = take_all (length s) s (omega arith) in
    let more : 0 < digits_value 10 s = first_all s first some in
    number_by (digits_value 10 s) more
    ∙ ap (λ (t : List ℕ). map (λ (d : ℕ). 48 + d) (digits_of 10 (digits_value 10 t))) (sym all)
    ∙ front_text s (length s) d first (omega arith)
    ∙ all

-- and so is a digit alone
pub number_one : (s : List ℕ) → AllDigits 10 s → length s ≡ 1 → number_text (digits_value 10 s) ≡ s
number_one [] d h = absurd (omega arith)
number_one (c ∷ x ∷ xs) d h = absurd (omega arith)
number_one (c ∷ []) d h =
    elim (cases_eq c 48) [
      | inl is ↦ ap (λ (m : ℕ). number_text (digits_value 10 (m ∷ []))) is ∙ zero_text ∙ ap (λ (m : ℕ). m ∷ []) (sym is)
      | inr other ↦ number_first (c ∷ []) d (omega arith) other
    ]

-- a zero in front does not count
pub front_zero : (s : List ℕ) (i : ℕ) → i < length s → get_or s i 0 ≡ 48 → digits_value 10 (drop (i + 1) s) ≡ digits_value 10 (drop i s)
front_zero s i h is = sym (at_drop_more (digits_value 10) s i 0 h ∙ ap (λ (c : ℕ). digits_value 10 (c ∷ drop (i + 1) s)) is)

pub front_first : (s : List ℕ) (i : ℕ) → AllDigits 10 s → i < length s → get_or s i 0 ≢ 48 → drop i s ≡ number_text (digits_value 10 (drop i s))
front_first s i d h other =
    let stands : get_or (drop i s) 0 0 ≡ get_or s i 0 = get_or-drop i s 0 0 ∙ ap (λ (m : ℕ). get_or s m 0) (add-zero i) in
    sym (number_first (drop i s) (digits_drop i s d) (omega (arith, length-drop i s)) (λ e. other (sym stands ∙ e)))

pub front_last : (s : List ℕ) (i : ℕ) → AllDigits 10 s → i < length s → length s ≤ i + 1 → drop i s ≡ number_text (digits_value 10 (drop i s))
front_last s i d h k = sym (number_one (drop i s) (digits_drop i s d) (omega (arith, length-drop i s)))

last_text : (front s : List ℕ) (k : ℕ) → AllDigits 10 s → k ≤ length s → last_digits k (digits_value 10 (front ++ take k s)) ≡ take k s
last_text front s zero d h = refl
last_text front s (suc k) d h =
    let within : k < length s = omega arith in
    let digit = digit_of s k d within in
    let next : take (suc k) s ≡ take k s ++ get_or s k 0 ∷ [] = ap (λ (m : ℕ). take m s) (sym (add-one k)) ∙ take_more s k 0 within in
    let value : digits_value 10 (front ++ take (suc k) s) ≡ digits_value 10 (front ++ take k s) * 10 + digit_value (get_or s k 0) =
    ap (λ (t : List ℕ). digits_value 10 (front ++ t)) next
    ∙ ap (digits_value 10) (sym (append_assoc front (take k s) (get_or s k 0 ∷ [])))
    ∙ digits_value_push 10 (front ++ take k s) (get_or s k 0) in
    let quotient : digits_value 10 (front ++ take (suc k) s) / 10 ≡ digits_value 10 (front ++ take k s) = omega (arith, value, digit) in
    let rest : digits_value 10 (front ++ take (suc k) s) % 10 ≡ digit_value (get_or s k 0) = omega (arith, value, digit) in
    ap (λ (m : ℕ). last_digits k m ++ (48 + digits_value 10 (front ++ take (suc k) s) % 10) ∷ []) quotient
    ∙ ap (λ (m : ℕ). last_digits k (digits_value 10 (front ++ take k s)) ++ (48 + m) ∷ []) rest
    ∙ ap (λ (m : ℕ). last_digits k (digits_value 10 (front ++ take k s)) ++ m ∷ []) (digit_is (get_or s k 0) digit)
    ∙ ap (λ (t : List ℕ). t ++ get_or s k 0 ∷ []) (last_text front s k d (omega arith))
    ∙ sym next

-- the digits behind a place are the last ones of the whole number
pub last_behind : (s : List ℕ) (kept k : ℕ) → AllDigits 10 s → kept + k ≡ length s → last_digits k (digits_value 10 s) ≡ drop kept s
last_behind s kept k d h =
    let size : length (drop kept s) ≡ k = omega (arith, length-drop kept s) in
    let all : take k (drop kept s) ≡ drop kept s = take_all k (drop kept s) (omega arith) in
    ap (λ (t : List ℕ). last_digits k (digits_value 10 t)) (sym (take-append-drop kept s))
    ∙ ap (λ (t : List ℕ). last_digits k (digits_value 10 (take kept s ++ t))) (sym all)
    ∙ last_text (take kept s) (drop kept s) k (digits_drop kept s d) (omega arith)
    ∙ all

-- the zeros at the end
zeros_push : (s : List ℕ) → without_zeros (s ++ 48 ∷ []) ≡ without_zeros s
zeros_push [] = refl
zeros_push (c ∷ cs) = ap (λ (t : List ℕ). cond (eqb c 48 && eqb (length t) 0) [] (c ∷ t)) (zeros_push cs)

kept_by : (b : Bool) (c : ℕ) (s : List ℕ) → 0 < length s → cond (b && eqb (length s) 0) [] (c ∷ s) ≡ c ∷ s
kept_by true c s h = cond-false (eqb (length s) 0) _ _ (ne_eqb (length s) 0 (λ e. absurd (omega arith)))
kept_by false c s h = refl

other_push : (s : List ℕ) (c : ℕ) → c ≢ 48 → without_zeros (s ++ c ∷ []) ≡ s ++ c ∷ []
other_push [] c h = ap (λ (b : Bool). cond (b && true) [] (c ∷ [])) (ne_eqb c 48 h)
other_push (x ∷ xs) c h =
    ap (λ (t : List ℕ). cond (eqb x 48 && eqb (length t) 0) [] (x ∷ t)) (other_push xs c h)
    ∙ kept_by (eqb x 48) x (xs ++ c ∷ []) (omega (arith, length-append xs (c ∷ [])))

take_step : (s : List ℕ) (k : ℕ) → 0 < k → k ≤ length s → take k s ≡ take (k - 1) s ++ get_or s (k - 1) 0 ∷ []
take_step s k some h =
    let again : k - 1 + 1 ≡ k = omega arith in
    ap (λ (m : ℕ). take m s) (sym again) ∙ take_more s (k - 1) 0 (omega arith)

pub back_zero : (s : List ℕ) (k : ℕ) → 0 < k → k ≤ length s → get_or s (k - 1) 0 ≡ 48 → without_zeros (take (k - 1) s) ≡ without_zeros (take k s)
back_zero s k some h is =
    sym (ap without_zeros (take_step s k some h) ∙ ap (λ (c : ℕ). without_zeros (take (k - 1) s ++ c ∷ [])) is ∙ zeros_push (take (k - 1) s))

pub back_other : (s : List ℕ) (k : ℕ) → 0 < k → k ≤ length s → get_or s (k - 1) 0 ≢ 48 → take k s ≡ without_zeros (take k s)
back_other s k some h other =
    take_step s k some h
    ∙ sym (ap without_zeros (take_step s k some h) ∙ other_push (take (k - 1) s) (get_or s (k - 1) 0) other)

-- parts one behind the other
pub four_parts : (t0 t1 t2 t3 t4 sign whole point rest : List ℕ) → t0 ≡ [] → t1 ≡ t0 ++ sign → t2 ≡ t1 ++ whole → t3 ≡ t2 ++ point → t4 ≡ t3 ++ rest
    → t4 ≡ sign ++ (whole ++ (point ++ rest))
four_parts t0 t1 t2 t3 t4 sign whole point rest a b c d e =
    let f : t1 ≡ sign = b ∙ ap (λ (t : List ℕ). t ++ sign) a in
    let g : t2 ≡ sign ++ whole = c ∙ ap (λ (t : List ℕ). t ++ whole) f in
    let h : t3 ≡ (sign ++ whole) ++ point = d ∙ ap (λ (t : List ℕ). t ++ point) g in
    e ∙ ap (λ (t : List ℕ). t ++ rest) h ∙ append_assoc (sign ++ whole) point rest ∙ append_assoc sign whole (point ++ rest)

pub decimal_parts : (negative : Bool) (s : List ℕ) (places kept : ℕ) (t0 t1 t2 t3 t4 whole fraction : List ℕ) → AllDigits 10 s → kept + places ≡ length s
    → t0 ≡ [] → t1 ≡ t0 ++ sign negative (digits_value 10 s) → t2 ≡ t1 ++ whole → whole ≡ number_text (digits_value 10 (take kept s))
    → t3 ≡ t2 ++ 46 ∷ [] → t4 ≡ t3 ++ fraction → fraction ≡ at_least_one (without_zeros (drop kept s))
    → t4 ≡ fixed_text (figure negative (digits_value 10 s) places)
unfolding fixed_text
decimal_parts negative s places kept t0 t1 t2 t3 t4 whole fraction d h a b c whole-is e f fraction-is =
    four_parts t0 t1 t2 t3 t4 (sign negative (digits_value 10 s)) whole (46 ∷ []) fraction a b c e f
    ∙ ap (λ (t : List ℕ). sign negative (digits_value 10 s) ++ (t ++ ((46 ∷ []) ++ fraction))) (whole-is ∙ ap number_text (sym (cut_quotient s kept places d h)))
    ∙ ap (λ (t : List ℕ). sign negative (digits_value 10 s) ++ (number_text (digits_value 10 s / 10 ^ places) ++ ((46 ∷ []) ++ t)))
    (fraction-is ∙ ap (λ (t : List ℕ). at_least_one (without_zeros t)) (sym (last_behind s kept places d h)))
