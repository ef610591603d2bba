-- The tokens inside segments: which token stands at a place of a source, and where it ends.
-- Space, tab, newline, carriage return and form feed part tokens; at one of these no token stands.
use Rattle.std.specs.Prelude.{◌≡◌, ℕ, ◌+◌, Bool, ◌||◌, ◌==◌, if◌then◌else◌, List, length, drop, take_while, slice_index, Option, None, Some}
use Rattle.std.specs.Char.{is_ascii_digit, is_ascii_alphabetic, is_ascii_alphanumeric}
use Rattle.template_compiler_tokens.specs.Token.{Symbol, plus, minus, mul, div, floor_div, pow, modulo, dot, comma, colon, tilde, assign, pipe, eq, ne, gt, gte, lt, lte, bracket_open, bracket_close, paren_open, paren_close, brace_open, brace_close, Token, identifier, symbol, bad, bad_syntax}
use Rattle.template_compiler_tokens.specs.Numbers.{number_at, number_width}
use Rattle.template_compiler_tokens.specs.Texts.{IsText}

unfoldable pub is_name_start : ℕ → Bool
is_name_start b = is_ascii_alphabetic b || b == 95

unfoldable pub is_name_part : ℕ → Bool
is_name_part b = is_ascii_alphanumeric b || b == 95

-- the sign of two bytes
unfoldable pub long_sign : ℕ → ℕ → Option Symbol
long_sign b c =
    if c == 61
    then
    (if b == 61 then Some eq
    else if b == 33 then Some ne
    else if b == 62 then Some gte
    else if b == 60 then Some lte
    else None)
    else if c == 47 then (if b == 47 then Some floor_div else None)
    else if c == 42 then (if b == 42 then Some pow else None)
    else None

-- the sign of one byte
unfoldable pub short_sign : ℕ → Option Symbol
short_sign b =
    if b == 43 then Some plus
    else if b == 45 then Some minus
    else if b == 42 then Some mul
    else if b == 47 then Some div
    else if b == 37 then Some modulo
    else if b == 46 then Some dot
    else if b == 44 then Some comma
    else if b == 58 then Some colon
    else if b == 126 then Some tilde
    else if b == 61 then Some assign
    else if b == 124 then Some pipe
    else if b == 62 then Some gt
    else if b == 60 then Some lt
    else if b == 91 then Some bracket_open
    else if b == 93 then Some bracket_close
    else if b == 40 then Some paren_open
    else if b == 41 then Some paren_close
    else if b == 123 then Some brace_open
    else if b == 125 then Some brace_close
    else None

-- the token is the longest sign that the text begins with
pub data IsSign : List ℕ → Token → ℕ → Type 0 where
  long : {s : List ℕ} {x : Symbol} → long_sign (slice_index s 0) (slice_index s 1) ≡ Some x → IsSign s (symbol x) 2
  short : {s : List ℕ} {x : Symbol} → long_sign (slice_index s 0) (slice_index s 1) ≡ None →
      short_sign (slice_index s 0) ≡ Some x → IsSign s (symbol x) 1
  no_sign : {s : List ℕ} → long_sign (slice_index s 0) (slice_index s 1) ≡ None →
      short_sign (slice_index s 0) ≡ None → IsSign s (bad bad_syntax) 0

-- what a token is, by its first byte
pub data Class : Type 0 where
  name_class number_class text_class sign_class : Class

unfoldable pub class_of : ℕ → Class
class_of b =
    if is_name_start b then name_class
    else if is_ascii_digit b then number_class
    else if b == 34 || b == 39 then text_class
    else sign_class

-- how many bytes belong to a token; to what is none, none
abbrev pub taken : Token → ℕ → ℕ
taken (bad fault) width = 0
taken t width = width

-- the text begins with the token of the class, which takes so many bytes
abbrev pub BeginsAs : Class → List ℕ → Token → ℕ → Type 0
BeginsAs name_class s t width = (t ≡ identifier (take_while is_name_part s)) × (width ≡ length (take_while is_name_part s))
BeginsAs number_class s t width = (t ≡ number_at s) × (width ≡ taken t (number_width s))
BeginsAs text_class s t width = IsText (slice_index s 0) (drop 1 s) t width
BeginsAs sign_class s t width = IsSign s t width

-- the text begins with the token, which takes so many bytes; a `bad` one takes none
abbrev pub Begins : List ℕ → Token → ℕ → Type 0
Begins s t width = BeginsAs (class_of (slice_index s 0)) s t width

-- at the place `i` of the source stands the token `t`, and it ends at `n`; a `bad` one where it begins
pub data IsToken : List ℕ → ℕ → Token → ℕ → Type 0 where
  token_at : {s : List ℕ} {i n : ℕ} {t : Token} (width : ℕ) → Begins (drop i s) t width → n ≡ i + width → IsToken s i t n
