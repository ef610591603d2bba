-- What a directive shows of a value.
use Rattle.std.specs.Prelude.{ℕ, ◌-◌, ◌==◌, ◌&&◌, ◌||◌, ℤ, pos, negsuc, Bool, nat_le, nat_lt, List, [], ◌++◌, length, chars, codes, unsigned_abs, unwrap_or, if◌then◌else◌, Option, None, Some, Result, Ok}
use Rattle.std.specs.Char.{encode_utf8}
use Rattle.std.specs.Fmt.{signed_decimal}
use Rattle.std.specs.Int.{is_negative}
use Rattle.std.specs.List.{after_first, before_first}
use Rattle.template_values_errors.specs.declared.ErrorKind.{ErrorKind}
use Rattle.template_values_model.specs.Val.{Val}
use Rattle.template_values_core.specs.Answers.{text_in}
use Rattle.template_values_core.specs.Reads.{whole_number}
use Rattle.template_callables.specs.Callables.{View}
use Rattle.template_builtins_arguments.specs.Answers.{then as after, refused}
use Rattle.template_builtins_arguments.specs.Arguments.{whole}
use Rattle.template_builtins_arguments.specs.Parts.{text_of}
use Rattle.template_builtins_numbers.specs.Decimals.{is_point, without_minus}
use Rattle.template_builtins_numbers.specs.Wholes as wholes
use Rattle.template_builtins_decimals.specs.Rounding.{rounded_decimal}
use Rattle.template_builtins_formats.specs.Digits.{digits, mark_of}
use Rattle.template_builtins_formats.specs.Filling.{at_least, at_most, numeral, padded, sign, zeros}
use Rattle.template_builtins_formats.specs.declared.directives.Base.{Base}
use Rattle.template_builtins_formats.specs.declared.directives.Directive.{Directive}
use Rattle.template_builtins_formats.specs.declared.directives.Kind.{Kind}
use Rattle.template_builtins_formats.specs.declared.directives.Kind.TheVariants.{Printed, Number, Character, Fixed}

-- the printed form of a value, of which a precision leaves so many characters
unfoldable pub printed_shown : View → Directive → Val → Result (List ℕ) ErrorKind
printed_shown view d v = after (text_of view v) (λ s. Ok (padded d.flags.left d.width (at_most d.precision s)))

-- what stands before the digits of a whole number
abbrev pub head_of : Directive → Base → Bool → List ℕ
head_of d base negative = sign d.flags negative ++ (if d.flags.alternate then mark_of base else [])

-- a whole number in a base, with at least as many digits as a precision says
unfoldable pub whole_shown : Directive → Base → ℤ → List ℕ
whole_shown d base z = numeral d (head_of d base (is_negative z)) (at_least d.precision (digits base (unsigned_abs z)))

unfoldable pub number_shown : Directive → Base → Val → Result (List ℕ) ErrorKind
number_shown d base v = after (whole v) (λ z. Ok (whole_shown d base z))

abbrev pub is_character : ℕ → Bool
is_character n = nat_lt n 0xD800 || (nat_le 0xE000 n && nat_lt n 0x11_0000)

-- the character of a number
abbrev pub character_coded : ℤ → Option ℕ
character_coded (pos n) = if is_character n then Some n else None
character_coded (negsuc n) = None

abbrev pub coded_text : Option ℕ → Result (List ℕ) ErrorKind
coded_text None = refused
coded_text (Some c) = Ok (encode_utf8 c)

abbrev pub character_alone : List ℕ → Result (List ℕ) ErrorKind
character_alone s = if length (chars s) == 1 then Ok s else refused

-- a text of one character, or the character of a number
abbrev pub character_by : Option ℤ → Option (List ℕ) → Result (List ℕ) ErrorKind
character_by (Some z) s = coded_text (character_coded z)
character_by None (Some s) = character_alone s
character_by None None = refused

unfoldable pub character_of : Val → Result (List ℕ) ErrorKind
character_of v = character_by (whole_number v) (text_in v)

unfoldable pub character_shown : Directive → Val → Result (List ℕ) ErrorKind
character_shown d v = after (character_of v) (λ s. Ok (padded d.flags.left d.width s))

abbrev pub decimal_text : Option (List ℕ) → Result (List ℕ) ErrorKind
decimal_text None = refused
decimal_text (Some s) = Ok s

-- the text of a decimal that is rounded to so many digits behind the point, or of a number with a 0 there
abbrev pub fixed_by : ℕ → Option ℤ → Option (List ℕ) → Result (List ℕ) ErrorKind
fixed_by places (Some z) s = Ok (signed_decimal z ++ codes ".0")
fixed_by places None (Some s) = decimal_text (rounded_decimal places s)
fixed_by places None None = refused

unfoldable pub fixed_of : ℕ → Val → Result (List ℕ) ErrorKind
fixed_of places v = fixed_by places (whole_number v) (text_in v)

-- the point, and behind it digits with zeros up to so many; without digits a point stands only where it is asked for
abbrev pub fraction_of : Bool → ℕ → List ℕ → List ℕ
fraction_of alternate places s =
    if places == 0 then (if alternate then codes "." else []) else codes "." ++ (s ++ zeros (places - length s))

-- the digits of a decimal with so many of them behind the point
unfoldable pub placed : Bool → ℕ → List ℕ → List ℕ
placed alternate places s = before_first is_point s ++ fraction_of alternate places (after_first is_point s)

-- how many digits stand behind the point: 6, where no precision says otherwise
abbrev pub places_of : Directive → ℕ
places_of d = unwrap_or d.precision 6

unfoldable pub decimal_shown : Directive → List ℕ → List ℕ
decimal_shown d s = numeral d (sign d.flags (wholes.is_negative s)) (placed d.flags.alternate (places_of d) (without_minus s))

unfoldable pub fixed_shown : Directive → Val → Result (List ℕ) ErrorKind
fixed_shown d v = after (fixed_of (places_of d) v) (λ s. Ok (decimal_shown d s))

abbrev pub shown_by : View → Kind → Directive → Val → Result (List ℕ) ErrorKind
shown_by view Printed d v = printed_shown view d v
shown_by view (Number base) d v = number_shown d base v
shown_by view Character d v = character_shown d v
shown_by view Fixed d v = fixed_shown d v

unfoldable pub shown : View → Directive → Val → Result (List ℕ) ErrorKind
shown view d v = shown_by view d.kind d v
