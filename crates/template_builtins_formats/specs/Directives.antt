-- Directives: what stands behind a `%` of a format.
use Rattle.std.specs.Prelude.{ℕ, Bool, not, ◌==◌, ◌||◌, nat_le, if◌then◌else◌, List, [], ◌∷◌, drop, Option, None, Some, Result, Ok, Err}
use Rattle.std.specs.Char.{is_digit}
use Rattle.std.specs.List.{before_first, list_any, position_or_len}
use Rattle.std.specs.Str.Parse.{digits_value}
use Rattle.template_values_errors.specs.declared.ErrorKind.{ErrorKind}
use Rattle.template_values_errors.specs.declared.ErrorKind.TheVariants.{NoFloats}
use Rattle.template_builtins_arguments.specs.Answers.{then as after, refused}
use Rattle.template_builtins_formats.specs.declared.directives.Directive.{Directive}
use Rattle.template_builtins_formats.specs.declared.directives.Flags.{Flags}
use Rattle.template_builtins_formats.specs.declared.directives.Base.TheVariants.{Decimal, LowerHex, UpperHex, Octal}
use Rattle.template_builtins_formats.specs.declared.directives.Kind.{Kind}
use Rattle.template_builtins_formats.specs.declared.directives.Kind.TheVariants.{Printed, Number, Character, Fixed}
use Rattle.template_builtins_formats.specs.declared.directives.TheConstants.{GREATEST_WIDTH}
use Rattle.template_builtins_formats.specs.declared.parts.Part.{Part}
use Rattle.template_builtins_formats.specs.declared.parts.Part.TheVariants as parts

-- one of `-`, `0`, `+`, `#` and a space
abbrev pub is_flag : ℕ → Bool
is_flag c = c == 45 || (c == 48 || (c == 43 || (c == 35 || c == 32)))

-- what cannot stand in a part
abbrev pub ends : Part → ℕ → Bool
ends parts.Flags c = not (is_flag c)
ends parts.Figures c = not (is_digit c 10)

-- the part at the start of a text, and what is behind it
unfoldable pub front : Part → List ℕ → List ℕ
front part s = before_first (ends part) s

unfoldable pub behind : Part → List ℕ → List ℕ
behind part s = drop (position_or_len (ends part) s) s

abbrev pub has : ℕ → List ℕ → Bool
has c s = list_any (λ b. b == c) s

abbrev pub flags_in : List ℕ → Flags
flags_in s = record { left = has 45 s; zero = has 48 s; plus = has 43 s; alternate = has 35 s; space = has 32 s }

-- a width or a precision: the number that figures write, 0 where there are none
unfoldable pub limited : List ℕ → Result ℕ ErrorKind
limited s = if nat_le (digits_value 10 s) GREATEST_WIDTH then Ok (digits_value 10 s) else refused

-- the number at the start of a text, and what is behind it
unfoldable pub width_in : List ℕ → Result (ℕ × List ℕ) ErrorKind
width_in s = after (limited (front parts.Figures s)) (λ n. Ok (n, behind parts.Figures s))

-- the number behind a point
abbrev pub precision_in : List ℕ → Result (Option ℕ × List ℕ) ErrorKind
precision_in [] = Ok (None, [])
precision_in (c ∷ s) = if c == 46 then after (width_in s) (λ w. Ok (Some w.0, w.1)) else Ok (None, c ∷ s)

abbrev pub is_float : ℕ → Bool
is_float c = (c == 101 || c == 69) || (c == 103 || c == 71)

abbrev pub kind_of : ℕ → Result Kind ErrorKind
kind_of c =
    if c == 115 then Ok Printed
    else (if c == 100 || c == 105 then Ok (Number Decimal)
    else (if c == 120 then Ok (Number LowerHex)
    else (if c == 88 then Ok (Number UpperHex)
    else (if c == 111 then Ok (Number Octal)
    else (if c == 99 then Ok Character
    else (if c == 102 || c == 70 then Ok Fixed
    else (if is_float c then Err NoFloats else refused)))))))

abbrev pub kind_in : List ℕ → Result (Kind × List ℕ) ErrorKind
kind_in [] = refused
kind_in (c ∷ s) = after (kind_of c) (λ kind. Ok (kind, s))

abbrev pub directive : Flags → ℕ → Option ℕ → Kind → Directive
directive flags width precision kind = record { flags = flags; width = width; precision = precision; kind = kind }

-- flags, a width, a precision and a kind, and the text behind these
unfoldable pub directive_in : List ℕ → Result (Directive × List ℕ) ErrorKind
directive_in s =
    after (width_in (behind parts.Flags s)) (λ width.
    after (precision_in width.1) (λ precision.
    after (kind_in precision.1) (λ kind.
    Ok (directive (flags_in (front parts.Flags s)) width.0 precision.0 kind.0, kind.1))))
