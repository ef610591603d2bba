use Rattle.std.proofs.Common.{arith, rules, ◌≡◌, ℕ, ◌<◌, true, ltb, cond, ◌≤◌, List, length, Some, None, Result, Ok, Err, ℤ, pos, ◌∙◌}
use Rattle.std.specs.Char.{is_ascii_digit}
use Rattle.std.specs.List.{list_all}
use Rattle.std.specs.Str.Parse.{ParsesSigned, digits_value}
use Rattle.std.proofs.lemmas.Str.Parse.{IsNumeralModel, numerals_by_value, parse_signed_digits}
use Rattle.std.proofs.lemmas.Bool.Decides.{nat_tests}
use mir.Syntax.{w128}
use Rattle.std.specs.Result.{result_ok}
use Rattle.template_values_operators.specs.Numbers.{in_range}
use Rattle.template_builtins_paths.specs.Paths.{is_number, number_named}
use Rattle.template_builtins_paths.proofs.parts.number_named.Goals as goal

own : IsNumeralModel (λ ds. list_all is_ascii_digit ds ≡ true) (digits_value 10)
own = numerals_by_value _ (search rules)

fits_ok : (n limit : ℕ) (z : ℤ) → n < limit → z ≡ pos n → Some z ≡ cond (ltb n limit) (Some (pos n)) None
fits_ok n limit z small e = grind (arith, nat_tests)

fits_err : (n limit : ℕ) → (n < limit → ⊥) → None ≡ cond (ltb n limit) (Some (pos n)) None
fits_err n limit large = let past : limit ≤ n = omega arith in grind (arith, nat_tests)

named : {E : Type 0} (s : List ℕ) (r : Result ℤ E) → ParsesSigned w128 10 s r → list_all is_ascii_digit s ≡ true → 0 < length s → result_ok r ≡ in_range (pos (digits_value 10 s))
named {E = E} s (Ok x) h digits some =
    let f = parse_signed_digits own {E = E} w128 s (Ok x) h digits in
    fits_ok (digits_value 10 s) _ x f.0.1 f.1
named {E = E} s (Err e) h digits some =
    let f = parse_signed_digits own {E = E} w128 s (Err e) h digits in
    fits_err (digits_value 10 s) _ (λ small. f (some, small))

is_some_digits : (s : List ℕ) → is_number s ≡ true → (list_all is_ascii_digit s ≡ true) × (0 < length s)
unfolding is_number
is_some_digits s h = (grind (arith, nat_tests), grind (arith, nat_tests))

pub returns : goal.returns
unfolding number_named
returns c =
    let d = is_some_digits _ c.requires in
    c.ok.ensures.value ∙ named _ _ c.from_str_radix.ensures.value d.0 d.1
