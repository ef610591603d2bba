-- The digits of decimals that are rounded.
use Rattle.std.proofs.Common.{arith, ◌≡◌, ℕ, ◌+◌, ◌-◌, ◌*◌, ◌^◌, ◌≤◌, ℤ, List, ◌++◌, length, replicate, get_or, ap, ◌∙◌, add-one, length-append}
use Rattle.std.proofs.lemmas.List.{length-replicate}
use Rattle.std.specs.Str.Parse.{AllDigits, digits_value}
use Rattle.template_builtins_numbers.specs.Decimals.{Decimal}
use Rattle.template_builtins_decimals.specs.Fixed.{all_digits, figure, fixed, fixed_text, places_behind, zeros_passed}
use Rattle.template_builtins_decimals.specs.Rounding.{digits_cut, rounded, rounded_text, units_in, zeros_put}
use Rattle.template_builtins_decimals.specs.declared.rounding.Method.{Method}
use Rattle.template_builtins_decimals.proofs.Digits.{digits_append, digits_zeros}
use Rattle.template_builtins_decimals.proofs.Values.{value_between, value_end_zeros}

pub all_are_digits : (zeros : ℕ) (d : Decimal) → AllDigits 10 d.whole → AllDigits 10 d.fraction → AllDigits 10 (all_digits zeros d)
all_are_digits zeros d whole fraction =
    digits_append ((replicate zeros 48 ++ d.whole) ++ d.fraction) (replicate (zeros_passed (length d.fraction) d.exponent) 48)
    (digits_append (replicate zeros 48 ++ d.whole) d.fraction (digits_append (replicate zeros 48) d.whole (digits_zeros zeros) whole) fraction)
    (digits_zeros (zeros_passed (length d.fraction) d.exponent))

pub all_begin_with_zero : (zeros : ℕ) (d : Decimal) → get_or (all_digits (zeros + 1) d) 0 0 ≡ 48
all_begin_with_zero zeros d = ap (λ (n : ℕ). get_or (all_digits n d) 0 0) (add-one zeros)

pub all_are_many : (zeros : ℕ) (d : Decimal) → zeros ≤ length (all_digits zeros d)
all_are_many zeros d =
    omega (
      arith,
      length-append ((replicate zeros 48 ++ d.whole) ++ d.fraction) (replicate (zeros_passed (length d.fraction) d.exponent) 48),
      length-append (replicate zeros 48 ++ d.whole) d.fraction,
      length-append (replicate zeros 48) d.whole,
      length-replicate {A = ℕ} zeros 48,
    )

pub text_is : (method : Method) (precision : ℤ) (d : Decimal) (front : ℕ) (all kept shown : List ℕ) (places cut zeros : ℕ)
    → all ≡ all_digits front d → digits_value 10 kept ≡ units_in method d.negative (digits_value 10 all) (10 ^ cut) → shown ≡ kept ++ replicate zeros 48
    → places ≡ places_behind (length d.fraction) d.exponent → cut ≡ digits_cut precision places → zeros ≡ zeros_put precision
    → fixed_text (figure d.negative (digits_value 10 shown) (places - cut)) ≡ rounded_text method precision d
unfolding rounded_text rounded fixed
text_is method precision d front all kept shown places cut zeros all-is kept-is shown-is places-is cut-is zeros-is =
    let value : ℕ = digits_value 10 (d.whole ++ d.fraction) * 10 ^ zeros_passed (length d.fraction) d.exponent in
    let units : digits_value 10 shown ≡ units_in method d.negative (digits_value 10 all) (10 ^ cut) * 10 ^ zeros =
    ap (digits_value 10) shown-is ∙ value_end_zeros kept zeros ∙ ap (λ (m : ℕ). m * 10 ^ zeros) kept-is in
    let whole : digits_value 10 all ≡ value = ap (digits_value 10) all-is ∙ value_between front (zeros_passed (length d.fraction) d.exponent) d.whole d.fraction in
    ap (λ (m : ℕ). fixed_text (figure d.negative m (places - cut))) units
    ∙ ap (λ (m : ℕ). fixed_text (figure d.negative (units_in method d.negative m (10 ^ cut) * 10 ^ zeros) (places - cut))) whole
    ∙ ap (λ (m : ℕ). fixed_text (figure d.negative (units_in method d.negative value (10 ^ cut) * 10 ^ m) (places - cut))) zeros-is
    ∙ ap (λ (m : ℕ). fixed_text (figure d.negative (units_in method d.negative value (10 ^ m) * 10 ^ zeros_put precision) (places - m))) cut-is
    ∙ ap (λ (m : ℕ). fixed_text (figure d.negative (units_in method d.negative value (10 ^ digits_cut precision m) * 10 ^ zeros_put precision) (m - digits_cut precision m))) places-is
