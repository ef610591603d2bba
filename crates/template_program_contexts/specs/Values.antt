-- What values that are given as JSON are, and why one is refused.
use Rattle.std.specs.Prelude.{ℕ, List, [], ◌∷◌, Option, None, Some, if◌then◌else◌}
use Rattle.std.specs.Option.{option_or}
use Rattle.std.specs.Str.{bytes_eq}
use Rattle.json.specs.Json.{Json}
use Rattle.serde_json.specs.Data.{Data}
use Rattle.serde_json.specs.Written.{has_float}
use Rattle.template_values_errors.specs.declared.ErrorKind.{ErrorKind}
use Rattle.template_values_errors.specs.declared.ErrorKind.TheVariants.{SyntaxError, NoFloats}
use Rattle.template_values_model.specs.Val.{Val}
use Rattle.template_values_json.specs.Json.{data_in}
use Rattle.template_values_json.specs.Contexts.{context_of, tree_in}
use Rattle.template_values_json.specs.declared.contexts.Floats.{Floats}
use Rattle.template_values_json.specs.declared.contexts.Floats.TheVariants.{Refused, AsSpelled}

-- a value need be no object, as a document is
abbrev pub fault_of_data : Option Data → Option ErrorKind
fault_of_data None = Some SyntaxError
fault_of_data (Some d) = if has_float d then Some NoFloats else None

abbrev pub fault_of_tree : Option Json → Option ErrorKind
fault_of_tree None = Some SyntaxError
fault_of_tree (Some j) = None

-- the refusal of a value, if any; else it is what the JSON stands for, `context_of`
abbrev pub fault_of_value : Floats → List ℕ → Option ErrorKind
fault_of_value Refused text = fault_of_data (data_in text)
fault_of_value AsSpelled text = fault_of_tree (tree_in text)

-- the last value of the name counts
abbrev pub values_under : Floats → List (List ℕ × List ℕ) → List ℕ → Option Val
values_under floats [] name = None
values_under floats (v ∷ later) name = option_or (values_under floats later name) (if bytes_eq v.0 name then context_of floats v.1 else None)

-- the first refusal is told
abbrev pub fault_of_values : Floats → List (List ℕ × List ℕ) → Option ErrorKind
fault_of_values floats [] = None
fault_of_values floats (v ∷ later) = option_or (fault_of_value floats v.1) (fault_of_values floats later)
