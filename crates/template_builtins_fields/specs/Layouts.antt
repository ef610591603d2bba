-- Layouts of fields, character by character: fill, alignment, zero, width and kind.
use Rattle.std.specs.Prelude.{ℕ, ◌+◌, ◌-◌, ◌*◌, ◌==◌, Bool, true, false, List, [], ◌∷◌, chars, drop, slice_get, nat_le, if◌then◌else◌, Option, None, Some, option_and_then, Result, Ok}
use Rattle.std.specs.Borrow.{Bor}
use Rattle.std.specs.Char.{is_ascii_digit}
use Rattle.template_values_errors.specs.declared.ErrorKind.{ErrorKind}
use Rattle.template_builtins_arguments.specs.Answers.{then as after, refused}
use Rattle.template_builtins_fields.specs.declared.layouts.Alignment.{Alignment}
use Rattle.template_builtins_fields.specs.declared.layouts.Alignment.TheVariants.{Left, Right, Center, Apart}
use Rattle.template_builtins_fields.specs.declared.layouts.Front as declared
use Rattle.template_builtins_fields.specs.declared.layouts.Kind.{Kind}
use Rattle.template_builtins_fields.specs.declared.layouts.Kind.TheVariants.{Any, Printed, Number}
use Rattle.template_builtins_fields.specs.declared.layouts.Layout.{Layout}
use Rattle.template_builtins_fields.specs.declared.layouts.TheConstants.{GREATEST_WIDTH}
use Rattle.template_builtins_fields.specs.declared.numerals.Base.TheVariants.{Binary, Octal, Decimal, LowerHex, UpperHex}

-- the alignment that a character names
abbrev pub alignment_for : ℕ → Option Alignment
alignment_for c =
    if c == 60 then Some Left
    else (if c == 62 then Some Right
    else (if c == 94 then Some Center
    else (if c == 61 then Some Apart
    else None)))

unfoldable pub alignment_at : List ℕ → ℕ → Option Alignment
alignment_at cs i = option_and_then alignment_for (slice_get cs i)

-- fill and alignment, and what is behind them
abbrev pub Front : Type 0
Front = Option ℕ × (Option Alignment × List ℕ)

abbrev pub front_seen : declared.Front → Front
front_seen front = (front.fill, (front.alignment, front.rest.now))

-- an alignment alone
abbrev pub alone : List ℕ → Option Alignment → Front
alone cs None = (None, (None, cs))
alone cs (Some a) = (None, (Some a, drop 1 cs))

-- an alignment behind a character that fills, or an alignment alone
abbrev pub filled_or_alone : List ℕ → Option Alignment → Front
filled_or_alone cs None = alone cs (alignment_at cs 0)
filled_or_alone cs (Some a) = (slice_get cs 0, (Some a, drop 2 cs))

unfoldable pub front_of : List ℕ → Front
front_of cs = filled_or_alone cs (alignment_at cs 1)

-- whether there is a zero at the front, and what is behind it
abbrev pub without_zero : List ℕ → Bool × List ℕ
without_zero [] = (false, [])
without_zero (c ∷ cs) = if c == 48 then (true, cs) else (false, c ∷ cs)

abbrev pub zero_seen : Bool × Bor (List ℕ) → Bool × List ℕ
zero_seen p = (p.0, p.1.now)

abbrev pub digit_of : ℕ → Option ℕ
digit_of c = if is_ascii_digit c then Some (c - 48) else None

-- the number that digits at the front write behind another, and what is behind them
abbrev pub number_then : ℕ → List ℕ → ℕ × List ℕ
number_then n [] = (n, [])
number_then n (c ∷ cs) = if is_ascii_digit c then number_then (n * 10 + (c - 48)) cs else (n, c ∷ cs)

-- no width is past the greatest
abbrev pub within_width : ℕ × List ℕ → Result (ℕ × List ℕ) ErrorKind
within_width found = if nat_le found.0 GREATEST_WIDTH then Ok found else refused

-- the width at the front, and what is behind it
unfoldable pub width_in : List ℕ → Result (ℕ × List ℕ) ErrorKind
width_in cs = within_width (number_then 0 cs)

abbrev pub width_seen : ℕ × Bor (List ℕ) → ℕ × List ℕ
width_seen p = (p.0, p.1.now)

-- the kind of a character
abbrev pub kind_named : ℕ → Result Kind ErrorKind
kind_named c =
    if c == 115 then Ok Printed
    else (if c == 100 then Ok (Number Decimal)
    else (if c == 120 then Ok (Number LowerHex)
    else (if c == 88 then Ok (Number UpperHex)
    else (if c == 111 then Ok (Number Octal)
    else (if c == 98 then Ok (Number Binary)
    else refused)))))

-- no character is any kind, and more than one are none
abbrev pub kind_of : List ℕ → Result Kind ErrorKind
kind_of [] = Ok Any
kind_of (c ∷ []) = kind_named c
kind_of (c ∷ d ∷ cs) = refused

abbrev pub sized : Option ℕ → Option Alignment → Bool × List ℕ → Result Layout ErrorKind
sized fill alignment (zero, digits) =
    after (width_in digits) (λ found.
    after (kind_of found.1) (λ kind.
    Ok (record { fill = fill; alignment = alignment; zero = zero; width = found.0; kind = kind })))

unfoldable pub layout_of : List ℕ → Result Layout ErrorKind
layout_of cs = sized (front_of cs).0 (front_of cs).1.0 (without_zero (front_of cs).1.1)

-- the layout that a text writes
unfoldable pub layout_in : List ℕ → Result Layout ErrorKind
layout_in s = layout_of (chars s)
