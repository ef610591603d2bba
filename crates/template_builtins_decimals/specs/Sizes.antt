-- Numbers of bytes in the greatest unit that they reach.
use Rattle.std.specs.Prelude.{ℕ, ◌+◌, ◌*◌, ◌/◌, ◌%◌, ◌==◌, ℤ, pos, negsuc, Bool, List, [], ◌∷◌, ◌++◌, nat_le, int_lt, unsigned_abs, codes, decimal, if◌then◌else◌}
use Rattle.std.specs.Char.{encode_utf8}
use Rattle.std.specs.Fmt.{signed_decimal}
use Rattle.template_builtins_decimals.specs.declared.sizes.Unit.{Unit}

-- how many bytes the unit of thousands has
abbrev pub base_of : Bool → ℕ
base_of binary = if binary then 1024 else 1000

-- the least unit
abbrev pub first_unit : Bool → Unit
first_unit binary = record { amount = base_of binary; letter = if binary then 75 else 107 }

-- the letters of the greater units
abbrev pub further_letters : List ℕ
further_letters = codes "MGTPEZY"

-- the unit of the next letter, which is the base times this one
abbrev pub next_unit : ℕ → Unit → ℕ → Unit
next_unit base unit letter = record { amount = unit.amount * base; letter = letter }

-- this unit, or the greatest of those of further letters that a number reaches
abbrev pub greatest_unit : ℕ → ℕ → Unit → List ℕ → Unit
greatest_unit base n unit [] = unit
greatest_unit base n unit (letter ∷ letters) =
    if nat_le (unit.amount * base) n then greatest_unit base n (next_unit base unit letter) letters else unit

-- how many tenths of a unit a number is, half up
unfoldable pub tenths : ℕ → ℕ → ℕ
tenths n unit = (n * 10 + unit / 2) / unit

-- as `1.2`, and a text behind it
abbrev pub tenths_before : List ℕ → ℕ → List ℕ
tenths_before end n = decimal (n / 10) ++ (codes "." ++ (decimal (n % 10) ++ end))

abbrev pub unit_end : Bool → List ℕ
unit_end binary = if binary then codes "iB" else codes "B"

-- as `1.2 MB`, and binary as `1.2 MiB`
unfoldable pub in_unit : Bool → ℕ → Unit → List ℕ
in_unit binary n unit = tenths_before (codes " " ++ (encode_utf8 unit.letter ++ unit_end binary)) (tenths n unit.amount)

unfoldable pub in_greatest : Bool → ℕ → List ℕ
in_greatest binary n = in_unit binary n (greatest_unit (base_of binary) n (first_unit binary) further_letters)

abbrev pub byte_word : ℤ → List ℕ
byte_word (pos n) = if n == 1 then codes "Byte" else codes "Bytes"
byte_word (negsuc n) = codes "Bytes"

-- `1 Byte`, or as `7 Bytes`
abbrev pub in_bytes : ℤ → List ℕ
in_bytes z = signed_decimal z ++ (codes " " ++ byte_word z)

unfoldable pub size_text : Bool → ℤ → List ℕ
size_text binary z = if int_lt z (pos (base_of binary)) then in_bytes z else in_greatest binary (unsigned_abs z)
