-- Whole numbers, as they are written. Texts are lists of bytes: 43 is `+`, 45 `-`, 46 `.`, 48 `0`, 95 `_`.
use Rattle.std.specs.Prelude.{ℕ, suc, ◌+◌, ◌*◌, ◌^◌, Bool, ◌&&◌, ◌||◌, ◌==◌, nat_lt, if◌then◌else◌, List, [], ◌∷◌, take, drop, fold, slice_index, Option, None, Some}
use Rattle.std.specs.Char.{is_ascii_digit, digit_value}
use Rattle.template_compiler_tokens.specs.Token.{Token, number, bad, bad_syntax, float_literal}

unfoldable pub is_digit : ℕ → ℕ → Bool
is_digit base b = nat_lt (digit_value b) base

-- a byte goes on with digits: one itself, or a single `_` directly before one
unfoldable pub goes_on : ℕ → ℕ → ℕ → Bool
goes_on base b next = is_digit base b || (b == 95 && is_digit base next)

-- how many of the first bytes go on with digits
unfoldable pub digits_len : ℕ → List ℕ → ℕ
digits_len base [] = 0
digits_len base (b ∷ s) = if goes_on base b (slice_index s 0) then suc (digits_len base s) else 0

-- the number with one more digit; what is none is passed over
unfoldable pub with_digit : ℕ → ℕ → ℕ → ℕ
with_digit base n b = if is_digit base b then base * n + digit_value b else n

-- the number that digits spell
unfoldable pub value_of : ℕ → List ℕ → ℕ
value_of base digits = fold (with_digit base) 0 digits

-- the base that a letter behind a `0` names: 16 for `x`, 8 for `o`, 2 for `b`, of either case
unfoldable pub named_base : ℕ → Option ℕ
named_base b =
    if b == 120 || b == 88 then Some 16
    else if b == 111 || b == 79 then Some 8
    else if b == 98 || b == 66 then Some 2
    else None

-- the base is 10 unless a letter behind a `0` names another, and a digit of that one follows
unfoldable pub base_by : ℕ → Option ℕ → ℕ → ℕ
base_by first None next = 10
base_by first (Some base) next = if first == 48 && is_digit base next then base else 10

unfoldable pub base_of : List ℕ → ℕ
base_of s = base_by (slice_index s 0) (named_base (slice_index s 1)) (slice_index s 2)

-- how many bytes name the base
unfoldable pub prefix_width : List ℕ → ℕ
prefix_width s = if base_of s == 10 then 0 else 2

-- a fraction or an exponent stands at the start of what follows a number
unfoldable pub begins_fraction : List ℕ → Bool
begins_fraction s =
    (slice_index s 0 == 46 && is_ascii_digit (slice_index s 1)) ||
    ((slice_index s 0 == 101 || slice_index s 0 == 69) &&
    (is_ascii_digit (slice_index s 1) ||
    ((slice_index s 1 == 43 || slice_index s 1 == 45) && is_ascii_digit (slice_index s 2))))

-- the digits of the number that a text begins with
unfoldable pub digits_at : List ℕ → List ℕ
digits_at s = take (digits_len (base_of s) (drop (prefix_width s) s)) (drop (prefix_width s) s)

unfoldable pub number_width : List ℕ → ℕ
number_width s = prefix_width s + digits_len (base_of s) (drop (prefix_width s) s)

-- decimal digits directly before a fraction or an exponent
unfoldable pub is_float : List ℕ → Bool
is_float s = base_of s == 10 && begins_fraction (drop (digits_len 10 s) s)

-- the token of the number that a text begins with: the largest one is 2^127 - 1
unfoldable pub number_at : List ℕ → Token
number_at s =
    if is_float s then bad float_literal
    else if nat_lt (value_of (base_of s) (digits_at s)) (2 ^ 127)
    then number (value_of (base_of s) (digits_at s))
    else bad bad_syntax
