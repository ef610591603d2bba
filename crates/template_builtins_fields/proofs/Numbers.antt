-- Numbers that digits write, and the digits of numbers.
use Rattle.std.proofs.Common.{◌≡◌, ℕ, ◌+◌, ◌/◌, ◌%◌, ◌<◌, ◌≤◌, List, [], ◌∷◌, ◌++◌, length, map, Bool, true, cond, ltb, None, Some, Result, Ok, Err, ap, ◌∙◌, arith, rules}
use Rattle.std.specs.Char.{is_ascii_digit}
use Rattle.std.specs.Fmt.{digit_glyph}
use Rattle.std.specs.Int.Digits.{digits_of}
use Rattle.std.specs.List.{list_all}
use Rattle.std.specs.Result.{result_ok}
use Rattle.std.specs.Str.Parse.{ParsesUnsigned, digits_value}
use Rattle.std.proofs.lemmas.Bool.Decides.{nat_tests}
use Rattle.std.proofs.lemmas.Int.Digits.{digits_of_step}
use Rattle.std.proofs.lemmas.List.{map-append}
use Rattle.std.proofs.lemmas.Str.Parse.{IsNumeralModel, numerals_by_value, parse_digits}
use Rattle.template_builtins_fields.specs.Choices.{number_in}

own : IsNumeralModel (λ ds. list_all is_ascii_digit ds ≡ true) (digits_value 10)
own = numerals_by_value _ (search rules)

fits_ok : (n limit x : ℕ) → n < limit → x ≡ n → Some x ≡ cond (ltb n limit) (Some n) None
fits_ok n limit x small e = grind (arith, nat_tests)

fits_err : (n limit : ℕ) → (n < limit → ⊥) → None ≡ cond (ltb n limit) (Some n) None
fits_err n limit large = let past : limit ≤ n = omega arith in grind (arith, nat_tests)

pub number_is : {E : Type 0} (s : List ℕ) (r : Result ℕ E) → ParsesUnsigned 64 10 s r → list_all is_ascii_digit s ≡ true → 0 < length s
    → result_ok r ≡ number_in s
unfolding number_in
number_is {E = E} s (Ok x) h digits some =
    let f = parse_digits own {E = E} 64 s (Ok x) h digits in
    fits_ok (digits_value 10 s) _ x f.0.1 f.1
number_is {E = E} s (Err e) h digits some =
    let f = parse_digits own {E = E} 64 s (Err e) h digits in
    fits_err (digits_value 10 s) _ (λ small. f (some, small))

-- a digit behind the others
pub digit_more : (base n : ℕ) (upper : Bool) → 2 ≤ base → 0 < n
    → map (digit_glyph upper) (digits_of base n) ≡ map (digit_glyph upper) (digits_of base (n / base)) ++ map (digit_glyph upper) (n % base ∷ [])
digit_more base n upper two some =
    ap (map (digit_glyph upper)) (digits_of_step base n two some)
    ∙ map-append (digit_glyph upper) (digits_of base (n / base)) (n % base ∷ [])

-- a number below the base is one digit
pub digit_alone : (base n : ℕ) (upper : Bool) → 2 ≤ base → 0 < n → n < base
    → map (digit_glyph upper) (digits_of base n) ≡ map (digit_glyph upper) (n ∷ [])
digit_alone base n upper two some less =
    let none : n / base ≡ 0 = grind arith in
    let same : n % base ≡ n = grind arith in
    digit_more base n upper two some
    ∙ ap (λ (k : ℕ). map (digit_glyph upper) (digits_of base k) ++ map (digit_glyph upper) (n % base ∷ [])) none
    ∙ ap (λ (k : ℕ). map (digit_glyph upper) (k ∷ [])) same
