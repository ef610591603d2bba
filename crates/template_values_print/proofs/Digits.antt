-- No digit and no sign is markup.
use Rattle.std.proofs.Common.{◌≡◌, ℕ, zero, suc, ◌^◌, ◌<◌, ◌≤◌, List, [], ◌∷◌, ◌++◌, ℤ, pos, negsuc, Ok, FitsSigned, refl, ap, ap₂, ◌∙◌, arith}
use Rattle.std.proofs.lemmas.Fmt.{decimal_is_IsNumeral_wide}
use Rattle.std.proofs.lemmas.Str.Parse.{digit_from_value}
use Rattle.std.specs.Fmt.{decimal, signed_decimal}
use Rattle.std.specs.Int.{w128}
use Rattle.std.specs.Str.Parse.{AllDigits}
use Rattle.template_values_model.specs.Val.{int}
use Rattle.template_values_forms.specs.Answers.{mapped}
use Rattle.template_values_forms.specs.Escapes.{html_byte, html}
use Rattle.template_values_forms.specs.Known.{Known}
use Rattle.template_values_forms.specs.Printed.{inner_text, level_limit, printed}

html_digit : (c : ℕ) → 48 ≤ c → c ≤ 57 → html_byte c ≡ c ∷ []
html_digit c low high = grind arith

html_digits : (ds : List ℕ) → AllDigits 10 ds → html ds ≡ ds
html_digits [] h = refl
html_digits (c ∷ cs) h =
    let range = digit_from_value c h.0 in
    ap₂ (λ (a b : List ℕ). a ++ b) (html_digit c (omega (arith, range)) (omega (arith, range))) (html_digits cs h.1)

html_decimal : (n : ℕ) → n < 10 ^ 64 → html (decimal n) ≡ decimal n
html_decimal n h = html_digits (decimal n) (decimal_is_IsNumeral_wide n h).0.1

pub html_signed : (z : ℤ) → FitsSigned w128 z → html (signed_decimal z) ≡ signed_decimal z
html_signed (pos n) h = let fits = h.sfits in html_decimal n (omega arith)
html_signed (negsuc n) h = let fits = h.sfits in ap (λ ds. 45 ∷ ds) (html_decimal (suc n) (omega arith))

inner_number : (known : Known) (level : ℕ) (n : ℤ) → inner_text known level (int n) ≡ Ok (signed_decimal n)
inner_number known zero n = refl
inner_number known (suc level) n = refl

-- what a number prints, and what it prints with references for markup
pub number_printed : (known : Known) (n : ℤ) → printed known (int n) ≡ Ok (signed_decimal n)
number_printed known n = inner_number known level_limit n

pub number_escaped : (known : Known) (n : ℤ) → FitsSigned w128 n → mapped html (printed known (int n)) ≡ Ok (signed_decimal n)
number_escaped known n fits = ap (mapped html) (number_printed known n) ∙ ap (λ ds. Ok ds) (html_signed n fits)
