-- The arithmetic of whole numbers from -2^127 to 2^127 - 1: exact, and nothing where the result is out of range.
use Rattle.std.specs.Prelude.{ℕ, ℤ, pos, negsuc, ◌+ℤ◌, ◌-ℤ◌, ◌*ℤ◌, neg_ℤ, ◌^◌, Bool, nat_lt, if◌then◌else◌, ◌==◌, unsigned_abs, Option, None, Some}
use Rattle.std.specs.Int.{int_div_euclid, int_rem_euclid, int_pow}

-- numbers from 0 on lie below, and their negations down to it
abbrev pub number_limit : ℕ
number_limit = 2 ^ 127

-- exponents lie below
abbrev pub exponent_limit : ℕ
exponent_limit = 2 ^ 32

-- z lies from -2^127 to 2^127 - 1
abbrev pub is_in_range : ℤ → Bool
is_in_range (pos n) = nat_lt n number_limit
is_in_range (negsuc n) = nat_lt n number_limit

-- z, where it is in range
abbrev pub in_range : ℤ → Option ℤ
in_range z = if is_in_range z then Some z else None

abbrev pub sum : ℤ → ℤ → Option ℤ
sum m n = in_range (m +ℤ n)

abbrev pub difference : ℤ → ℤ → Option ℤ
difference m n = in_range (m -ℤ n)

abbrev pub product : ℤ → ℤ → Option ℤ
product m n = in_range (m *ℤ n)

-- nothing at a zero divisor; elsewhere the quotient whose remainder is not negative
abbrev pub quotient : ℤ → ℤ → Option ℤ
quotient m n = if unsigned_abs n == 0 then None else in_range (int_div_euclid m n)

-- nothing at a zero divisor; elsewhere that remainder, which is always in range
abbrev pub remainder : ℤ → ℤ → Option ℤ
remainder m n = if unsigned_abs n == 0 then None else Some (int_rem_euclid m n)

-- the exponent lies from 0 to 2^32 - 1; every number to the power 0 is 1
abbrev pub power : ℤ → ℤ → Option ℤ
power m (pos n) = if nat_lt n exponent_limit then in_range (int_pow m n) else None
power m (negsuc n) = None

abbrev pub negation : ℤ → Option ℤ
negation n = in_range (neg_ℤ n)
