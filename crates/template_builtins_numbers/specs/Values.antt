-- What the filters on any value go by.
use Rattle.std.specs.Prelude.{ℕ, suc, ℤ, pos, negsuc, Bool, true, false, not, if◌then◌else◌, List, [], ◌∷◌, Option, None, Some, Result, Ok}
use Rattle.template_values_errors.specs.declared.ErrorKind.{ErrorKind}
use Rattle.template_values_model.specs.Val.{Val, int, text}
use Rattle.template_values_core.specs.Reads.{whole_number}
use Rattle.template_values_forms.specs.Known.{nothing_known}
use Rattle.template_values_operators.specs.Numbers.{in_range}
use Rattle.template_values_operators.specs.Items.{attribute_of}
use Rattle.template_values_operators.specs.Kinds.{is_undefined}
use Rattle.template_values_operators.specs.Sums.{sum_of}
use Rattle.template_callables.specs.Callables.{View}
use Rattle.template_builtins_arguments.specs.Answers.{Made, then as after, told, refused}
use Rattle.template_builtins_arguments.specs.Parts.{truth_of}
use Rattle.template_builtins_paths.specs.Items.{part_or_self}
use Rattle.template_builtins_paths.specs.Paths.{part_of_undefined}

-- a value is undefined, or where that counts too it is false
unfoldable pub is_lacking : View → Bool → Val → Result Bool ErrorKind
is_lacking view boolean v =
    if is_undefined v then Ok true
    else (if boolean then after (truth_of view v) (λ t. Ok (not t)) else Ok false)

-- a default that is given, else the empty text
abbrev pub default_from : Option Val → Val
default_from None = text []
default_from (Some v) = v

-- the number without its sign, where that is in range
abbrev pub magnitude : ℤ → Option ℤ
magnitude (pos n) = Some (pos n)
magnitude (negsuc n) = in_range (pos (suc n))

abbrev pub number_made : Option ℤ → Made
number_made None = refused
number_made (Some n) = Ok (int n)

abbrev pub magnitude_by : Option ℤ → Made
magnitude_by None = refused
magnitude_by (Some n) = number_made (magnitude n)

-- of a whole number, and of no other value
unfoldable pub magnitude_of : Val → Made
magnitude_of v = magnitude_by (whole_number v)

unfoldable pub plus : Val → Val → Made
plus total v = told (sum_of total v)

-- a total, and each by `+` of the language, or its part at a path
abbrev pub summed : View → Option Val → Val → List Val → Made
summed view path total [] = Ok total
summed view path total (v ∷ vs) = after (part_or_self view path v) (λ part. after (plus total part) (λ next. summed view path next vs))

-- what a sum starts from
abbrev pub start_from : Option Val → Val
start_from None = int (pos 0)
start_from (Some v) = v

unfoldable pub attribute_at : Val → List ℕ → Made
attribute_at v name = told (attribute_of nothing_known v name)

-- the attribute of a name, and no item
abbrev pub attribute_named : View → Val → Option (List ℕ) → Made
attribute_named view v None = refused
attribute_named view v (Some name) = if is_undefined v then part_of_undefined view else attribute_at v name
