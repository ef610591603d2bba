-- The arguments that fields name: by turn, by number or by keyword.
use Rattle.std.specs.Prelude.{◌≡◌, ℕ, ◌+◌, ◌<◌, ◌==◌, ◌^◌, true, false, List, length, slice_get, nat_lt, if◌then◌else◌, Option, None, Some, option_and_then, Result, Ok}
use Rattle.std.specs.Char.{is_ascii_digit}
use Rattle.std.specs.List.{list_all}
use Rattle.std.specs.Str.Parse.{digits_value}
use Rattle.template_values_errors.specs.declared.ErrorKind.{ErrorKind}
use Rattle.template_values_model.specs.Val.{Val}
use Rattle.template_values_model.specs.Lookup.{value_at}
use Rattle.template_builtins_arguments.specs.Answers.{refused}
use Rattle.template_builtins_arguments.specs.Arguments.{by_place, keywords_in}
use Rattle.template_builtins_fields.specs.declared.arguments.Found.{Found}
use Rattle.template_builtins_fields.specs.declared.arguments.Numbering.{Numbering}

-- no field has named an argument so far
abbrev pub no_numbering : Numbering
no_numbering = record { taken = 0; numbered = false }

-- an argument, and how arguments are named from there on
abbrev pub seen : Found → Val × Numbering
seen f = (f.value.now, f.numbering)

abbrev pub found : Option Val → Numbering → Result (Val × Numbering) ErrorKind
found None numbering = refused
found (Some v) numbering = Ok (v, numbering)

-- the next argument by turn, unless one was named by number
abbrev pub next_argument : List Val → Numbering → Result (Val × Numbering) ErrorKind
next_argument vs numbering =
    if numbering.numbered then refused
    else found (slice_get (by_place vs) numbering.taken) (record { taken = numbering.taken + 1; numbered = false })

-- some digits, and nothing else
abbrev pub IsNumber : List ℕ → Type 0
IsNumber name = (list_all is_ascii_digit name ≡ true) × (0 < length name)

-- the number that digits write, where it is one of the machine's
unfoldable pub number_in : List ℕ → Option ℕ
number_in name = if nat_lt (digits_value 10 name) (2 ^ 64) then Some (digits_value 10 name) else None

abbrev pub placed_argument : List Val → Option ℕ → Option Val
placed_argument vs number = option_and_then (slice_get (by_place vs)) number

-- the argument of a number, unless one was taken by turn
abbrev pub numbered_argument : List Val → Numbering → Option ℕ → Result (Val × Numbering) ErrorKind
numbered_argument vs numbering number =
    if nat_lt 0 numbering.taken then refused
    else found (placed_argument vs number) (record { taken = 0; numbered = true })

abbrev pub named_argument : List Val → List ℕ → Option Val
named_argument vs name = option_and_then (value_at name) (keywords_in vs)

-- the argument that a field names
unfoldable pub argument_for : List Val → Numbering → List ℕ → Result (Val × Numbering) ErrorKind
argument_for vs numbering name =
    if length name == 0 then next_argument vs numbering
    else (if list_all is_ascii_digit name then numbered_argument vs numbering (number_in name)
    else found (named_argument vs name) numbering)
