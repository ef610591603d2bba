-- Whole numbers that texts write.
use Rattle.std.specs.Prelude.{◌≡◌, ℕ, ◌+◌, ◌*◌, ◌≤◌, ◌^◌, ℤ, pos, neg_ℤ, Bool, not, ◌&&◌, ◌||◌, ◌==◌, nat_lt, if◌then◌else◌, List, drop, length, slice_index, Option, None, Some}
use Rattle.std.specs.Char.{digit_value, is_digit}
use Rattle.std.specs.List.{filter, list_all, slice_split}
use Rattle.std.specs.Str.Parse.{digits_value}
use Rattle.template_values_operators.specs.Numbers.{in_range}

-- a sign at the start
abbrev pub is_sign : ℕ → Bool
is_sign c = c == 43 || c == 45

abbrev pub is_negative : List ℕ → Bool
is_negative s = slice_index s 0 == 45

abbrev pub without_sign : List ℕ → List ℕ
without_sign s = if is_sign (slice_index s 0) then drop 1 s else s

-- the letter of a base: x, o or b
abbrev pub marks_base : ℕ → ℕ → Bool
marks_base base c =
    (base == 16 && (c == 120 || c == 88)) || ((base == 8 && (c == 111 || c == 79)) || (base == 2 && (c == 98 || c == 66)))

-- without the 0 and the letter that stand before the digits of the base
abbrev pub without_mark : ℕ → List ℕ → List ℕ
without_mark base s = if slice_index s 0 == 48 && marks_base base (slice_index s 1) then drop 2 s else s

-- one digit of the base or more
unfoldable pub are_digits : ℕ → List ℕ → Bool
are_digits base s = nat_lt 0 (length s) && list_all (λ c. is_digit c base) s

abbrev pub is_space : ℕ → Bool
is_space c = c == 95

-- the same with single `_` between them
unfoldable pub are_spaced_digits : ℕ → List ℕ → Bool
are_spaced_digits base s = list_all (are_digits base) (slice_split is_space s)

-- the number that they write
unfoldable pub spaced_value : ℕ → List ℕ → ℕ
spaced_value base s = digits_value base (filter (λ c. not (is_space c)) s)

-- a number with one digit more; `_` is none
abbrev pub digit_after : ℕ → ℕ → ℕ → ℕ
digit_after base n c = if is_space c then n else n * base + digit_value c

-- a number of 128 bits; none where it has more
abbrev pub IsCounted : Option ℕ → ℕ → Type 0
IsCounted None n = 2 ^ 128 ≤ n
IsCounted (Some m) n = m ≡ n

-- the number with its sign, where it is one of the language
unfoldable pub signed : Bool → ℕ → Option ℤ
signed negative n = in_range (if negative then neg_ℤ (pos n) else pos n)

abbrev pub signed_counted : Bool → Option ℕ → Option ℤ
signed_counted negative None = None
signed_counted negative (Some n) = signed negative n

unfoldable pub whole_in : Bool → ℕ → List ℕ → Option ℤ
whole_in negative base s = if are_spaced_digits base s then signed negative (spaced_value base s) else None

-- a sign, the base's mark and digits
unfoldable pub whole_written : ℕ → List ℕ → Option ℤ
whole_written base s = whole_in (is_negative s) base (without_mark base (without_sign s))
