-- Whole numbers in several bases.
use Rattle.std.specs.Prelude.{ℕ, ◌==◌, Bool, true, false, List, map, codes, if◌then◌else◌}
use Rattle.std.specs.Fmt.{digit_glyph}
use Rattle.std.specs.Int.Digits.{digits_of}
use Rattle.template_builtins_fields.specs.declared.numerals.Base.{Base}
use Rattle.template_builtins_fields.specs.declared.numerals.Base.TheVariants.{Binary, Octal, Decimal, LowerHex, UpperHex}

abbrev pub size_of : Base → ℕ
size_of Binary = 2
size_of Octal = 8
size_of Decimal = 10
size_of LowerHex = 16
size_of UpperHex = 16

abbrev pub is_upper : Base → Bool
is_upper Binary = false
is_upper Octal = false
is_upper Decimal = false
is_upper LowerHex = false
is_upper UpperHex = true

-- the digits of a number
unfoldable pub numeral : Base → ℕ → List ℕ
numeral base n = if n == 0 then codes "0" else map (digit_glyph (is_upper base)) (digits_of (size_of base) n)
