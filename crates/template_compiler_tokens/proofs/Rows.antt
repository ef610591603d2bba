-- Worked rows of the tokens.
use Rattle.std.proofs.Common.{◌≡◌, [], ◌∷◌, Some, refl, arith, lit<, lit≤}
use Rattle.std.specs.Prelude.{codes}
use Rattle.std.proofs.Math.Utf8.{encode}
use Rattle.template_compiler_tokens.specs.Token.{string, number, bad, bad_syntax, float_literal, floor_div}
use Rattle.template_compiler_tokens.specs.Numbers.{is_digit, goes_on, digits_len, with_digit, value_of, named_base, base_by, base_of, prefix_width, begins_fraction, digits_at, number_width, is_float, number_at}
use Rattle.template_compiler_tokens.specs.Texts.{close_here, close_behind_escape, named_escape, IsEscape, named, pair, unescapes_end, unescapes_escape, IsText, closed_text}
use Rattle.template_compiler_tokens.specs.Lexical.{is_name_start, long_sign, class_of, IsToken, token_at}

decimal_row : number_at (codes "1_0 + 1") ≡ number 10
unfolding number_at is_float value_of digits_at number_width prefix_width base_of base_by named_base digits_len goes_on is_digit with_digit begins_fraction
decimal_row = refl

hexadecimal_row : number_at (codes "0xFf") ≡ number 255
unfolding number_at is_float value_of digits_at number_width prefix_width base_of base_by named_base digits_len goes_on is_digit with_digit begins_fraction
hexadecimal_row = refl

-- where no digit of the base follows, the number is 0, and a name follows
zero_row : number_at (codes "0or 1") ≡ number 0
unfolding number_at is_float value_of digits_at number_width prefix_width base_of base_by named_base digits_len goes_on is_digit with_digit begins_fraction
zero_row = refl

zero_width_row : number_width (codes "0or 1") ≡ 1
unfolding number_width prefix_width base_of base_by named_base digits_len goes_on is_digit
zero_width_row = refl

underscores_row : number_width (codes "1__0") ≡ 1
unfolding number_width prefix_width base_of base_by named_base digits_len goes_on is_digit
underscores_row = refl

float_row : number_at (codes "1.5") ≡ bad float_literal
unfolding number_at is_float value_of digits_at number_width prefix_width base_of base_by named_base digits_len goes_on is_digit with_digit begins_fraction
float_row = refl

exponent_row : number_at (codes "1e-3") ≡ bad float_literal
unfolding number_at is_float value_of digits_at number_width prefix_width base_of base_by named_base digits_len goes_on is_digit with_digit begins_fraction
exponent_row = refl

-- an attribute of 1, not a float
attribute_row : number_at (codes "1.e5") ≡ number 1
unfolding number_at is_float value_of digits_at number_width prefix_width base_of base_by named_base digits_len goes_on is_digit with_digit begins_fraction
attribute_row = refl

largest_row : number_at (codes "170141183460469231731687303715884105727") ≡ number 170141183460469231731687303715884105727
unfolding number_at is_float value_of digits_at number_width prefix_width base_of base_by named_base digits_len goes_on is_digit with_digit begins_fraction
largest_row = refl

too_large_row : number_at (codes "170141183460469231731687303715884105728") ≡ bad bad_syntax
unfolding number_at is_float value_of digits_at number_width prefix_width base_of base_by named_base digits_len goes_on is_digit with_digit begins_fraction
too_large_row = refl

long_row : long_sign 47 47 ≡ Some floor_div
unfolding long_sign
long_row = refl

-- an escaped newline between quotes
text_row : IsToken (39 ∷ 92 ∷ 110 ∷ 39 ∷ []) 0 (string (10 ∷ [])) 4
unfolding class_of is_name_start named_escape encode
text_row =
    let inside : IsText 39 (92 ∷ 110 ∷ 39 ∷ []) (string (10 ∷ [])) 4 =
    closed_text (close_behind_escape (λ e. absurd (omega (arith, e))) refl (close_here refl))
    (unescapes_escape refl (named refl) refl unescapes_end refl) refl in
    token_at {s = 39 ∷ 92 ∷ 110 ∷ 39 ∷ []} {i = 0} {t = string (10 ∷ [])} 4 inside refl

-- a high surrogate with its low one is one character
pair_row : IsEscape (codes "ud83d\\ude00") 128512 11
unfolding is_digit
pair_row =
    pair refl
    record {
      high = 216;
      low = 61;
      high_byte = record { high = refl; low = refl; value = refl };
      low_byte = record { high = refl; low = refl; value = refl };
      value = refl;
    }
    (lit≤ tt, lit< tt)
    refl refl
    record {
      high = 222;
      low = 0;
      high_byte = record { high = refl; low = refl; value = refl };
      low_byte = record { high = refl; low = refl; value = refl };
      value = refl;
    }
    (lit≤ tt, lit< tt)
    refl
