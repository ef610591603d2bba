-- Decimals: texts that are spelled as numbers of JSON.
use Rattle.std.specs.Prelude.{ℕ, suc, ◌+◌, ◌-◌, ℤ, pos, negsuc, neg_ℤ, Bool, not, ◌&&◌, ◌||◌, ◌==◌, nat_le, nat_lt, if◌then◌else◌, List, [], ◌∷◌, ◌++◌, length, drop, take, slice_index, Option, None, Some, option_and_then, option_map}
use Rattle.std.specs.List.{after_first, before_first, position_or_len, repeat}
use Rattle.std.specs.Str.Parse.{digits_value}
use Rattle.template_builtins_numbers.specs.Wholes.{are_digits, is_negative, signed, spaced_value, without_sign}

-- the digits before and behind a point that is then moved to the right by so many places
pub record Decimal : Type 0 where
  pub negative : Bool
  pub whole : List ℕ
  pub fraction : List ℕ
  pub exponent : ℤ

abbrev pub is_point : ℕ → Bool
is_point c = c == 46

abbrev pub is_power : ℕ → Bool
is_power c = c == 101 || c == 69

-- what stands behind the first of these, if there is one
abbrev pub behind : (ℕ → Bool) → List ℕ → Option (List ℕ)
behind p s = if nat_lt (position_or_len p s) (length s) then Some (after_first p s) else None

abbrev pub without_minus : List ℕ → List ℕ
without_minus s = if is_negative s then drop 1 s else s

-- digits, of which the first is 0 only where it is the only one
abbrev pub are_plain_digits : List ℕ → Bool
are_plain_digits s = are_digits 10 s && (length s == 1 || not (slice_index s 0 == 48))

-- the digits behind the point, none where there is no point
abbrev pub fraction_in : Option (List ℕ) → Option (List ℕ)
fraction_in None = Some []
fraction_in (Some s) = if are_digits 10 s then Some s else None

-- from -40 to 40
abbrev pub exponent_limit : ℕ
exponent_limit = 40

abbrev pub small_exponent : Bool → ℕ → Option ℤ
small_exponent negative n = if nat_le n exponent_limit then Some (if negative then neg_ℤ (pos n) else pos n) else None

abbrev pub small_counted : Bool → Option ℕ → Option ℤ
small_counted negative None = None
small_counted negative (Some n) = small_exponent negative n

abbrev pub exponent_in : Option (List ℕ) → Option ℤ
exponent_in None = Some (pos 0)
exponent_in (Some s) =
    if are_digits 10 (without_sign s) then small_exponent (is_negative s) (spaced_value 10 (without_sign s)) else None

-- the parts of a mantissa and of what stands behind the letter of the power
abbrev pub decimal_in : Bool → List ℕ → Option (List ℕ) → Option (List ℕ) → Option Decimal
decimal_in negative whole fraction exponent =
    if are_plain_digits whole
    then option_and_then (λ f. option_map (λ e. record { negative = negative; whole = whole; fraction = f; exponent = e }) (exponent_in exponent)) (fraction_in fraction)
    else None

unfoldable pub decimal_of : List ℕ → Option Decimal
decimal_of s =
    decimal_in (is_negative s)
    (before_first is_point (before_first is_power (without_minus s)))
    (behind is_point (before_first is_power (without_minus s)))
    (behind is_power (without_minus s))

-- how many digits stand before the point once it is moved
abbrev pub places_before : ℕ → ℤ → ℕ
places_before n (pos e) = n + e
places_before n (negsuc e) = n - suc e

abbrev pub zeros : ℕ → List ℕ
zeros n = repeat n (48 ∷ [])

-- the first n digits, with zeros where there are no more
abbrev pub digits_before : List ℕ → ℕ → List ℕ
digits_before s n = take n (s ++ zeros n)

-- the number before the moved point, without its sign
unfoldable pub whole_magnitude : Decimal → ℕ
whole_magnitude d = digits_value 10 (digits_before (d.whole ++ d.fraction) (places_before (length d.whole) d.exponent))

-- the same with its sign, where it is a number of the language
unfoldable pub whole_part : Decimal → Option ℤ
whole_part d = signed d.negative (whole_magnitude d)
