-- Decimals without an exponent: a number, and how many of its digits stand behind the point.
use Rattle.std.specs.Prelude.{ℕ, zero, suc, ◌+◌, ◌-◌, ◌*◌, ◌/◌, ◌%◌, ◌^◌, ◌==◌, ◌&&◌, ℤ, pos, negsuc, Bool, List, [], ◌∷◌, ◌++◌, length, map, nat_lt, replicate, codes, if◌then◌else◌}
use Rattle.std.specs.Int.Digits.{digits_of}
use Rattle.std.specs.Str.Parse.{digits_value}
use Rattle.template_builtins_numbers.specs.Decimals.{Decimal}

-- a number of units, of which ten to the power of the places are one
pub record Fixed : Type 0 where
  pub negative : Bool
  pub units : ℕ
  pub places : ℕ

abbrev pub figure : Bool → ℕ → ℕ → Fixed
figure negative units places = record { negative = negative; units = units; places = places }

-- how many of so many digits behind the point stay there once it is moved
abbrev pub places_behind : ℕ → ℤ → ℕ
places_behind n (pos e) = n - e
places_behind n (negsuc e) = n + suc e

-- how many zeros it then passes behind them
abbrev pub zeros_passed : ℕ → ℤ → ℕ
zeros_passed n (pos e) = e - n
zeros_passed n (negsuc e) = 0

unfoldable pub fixed : Decimal → Fixed
fixed d = record {
  negative = d.negative;
  units = digits_value 10 (d.whole ++ d.fraction) * 10 ^ zeros_passed (length d.fraction) d.exponent;
  places = places_behind (length d.fraction) d.exponent;
}

-- all digits of a decimal, behind so many zeros
abbrev pub all_digits : ℕ → Decimal → List ℕ
all_digits zeros d = ((replicate zeros 48 ++ d.whole) ++ d.fraction) ++ replicate (zeros_passed (length d.fraction) d.exponent) 48

-- the digits of a number
unfoldable pub number_text : ℕ → List ℕ
number_text n = if n == 0 then codes "0" else map (λ d. 48 + d) (digits_of 10 n)

-- the last digits of a number, so many
abbrev pub last_digits : ℕ → ℕ → List ℕ
last_digits zero n = []
last_digits (suc k) n = last_digits k (n / 10) ++ (48 + n % 10) ∷ []

-- digits without the zeros at their end
abbrev pub without_zeros : List ℕ → List ℕ
without_zeros [] = []
without_zeros (c ∷ cs) = if c == 48 && length (without_zeros cs) == 0 then [] else c ∷ without_zeros cs

abbrev pub at_least_one : List ℕ → List ℕ
at_least_one s = if length s == 0 then codes "0" else s

-- no zero has a sign
abbrev pub sign : Bool → ℕ → List ℕ
sign negative units = if negative && nat_lt 0 units then codes "-" else []

-- the text of a decimal, with as many digits behind the point as it needs and at least one
unfoldable pub fixed_text : Fixed → List ℕ
fixed_text x =
    sign x.negative x.units
    ++ (number_text (x.units / 10 ^ x.places) ++ (codes "." ++ at_least_one (without_zeros (last_digits x.places x.units))))
