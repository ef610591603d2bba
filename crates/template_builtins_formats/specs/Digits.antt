-- The digits of whole numbers.
use Rattle.std.specs.Prelude.{ℕ, ◌==◌, Bool, true, false, List, [], map, codes, if◌then◌else◌}
use Rattle.std.specs.Fmt.{digit_glyph}
use Rattle.std.specs.Int.Digits.{digits_of}
use Rattle.template_builtins_formats.specs.declared.directives.Base.{Base}
use Rattle.template_builtins_formats.specs.declared.directives.Base.TheVariants.{Decimal, LowerHex, UpperHex, Octal}

abbrev pub radix_of : Base → ℕ
radix_of Decimal = 10
radix_of LowerHex = 16
radix_of UpperHex = 16
radix_of Octal = 8

abbrev pub is_upper : Base → Bool
is_upper UpperHex = true
is_upper _ = false

-- what marks a base
abbrev pub mark_of : Base → List ℕ
mark_of Decimal = []
mark_of LowerHex = codes "0x"
mark_of UpperHex = codes "0X"
mark_of Octal = codes "0o"

-- the digits of a number in a base, none of 0
abbrev pub some_digits : Base → ℕ → List ℕ
some_digits base n = map (digit_glyph (is_upper base)) (digits_of (radix_of base) n)

-- the digits of a number in a base
unfoldable pub digits : Base → ℕ → List ℕ
digits base n = if n == 0 then codes "0" else some_digits base n
