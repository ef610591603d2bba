-- The context that JSON stands for, and why JSON is refused, by how numbers are taken that are no whole ones.
use Rattle.std.specs.Prelude.{ℕ, List, Option, None, Some, option_and_then, option_map, if◌then◌else◌}
use Rattle.std.specs.Str.{is_utf8}
use Rattle.json.specs.Json.{Json, object, if_last, value}
use Rattle.json.specs.Lex.{tokens}
use Rattle.serde_json.specs.Read.{max_depth}
use Rattle.template_values_errors.specs.declared.ErrorKind.{ErrorKind}
use Rattle.template_values_errors.specs.declared.ErrorKind.TheVariants.{SyntaxError, InvalidOperation}
use Rattle.template_values_model.specs.Val.{Val}
use Rattle.template_values_json.specs.Json.{data_in, fault_in, value_of}
use Rattle.template_values_json.specs.Spelled.{spelled_value}
use Rattle.template_values_json.specs.declared.contexts.Floats.{Floats}
use Rattle.template_values_json.specs.declared.contexts.Floats.TheVariants.{Refused, AsSpelled}

-- the JSON that a text is, nested as deep as `serde_json` reads
unfoldable pub tree_of : List ℕ → Option Json
tree_of s = option_and_then (λ p. if_last p.0 p.1) (value max_depth (tokens s))

abbrev pub tree_in : List ℕ → Option Json
tree_in bytes = if is_utf8 bytes then tree_of bytes else None

-- a document is an object
abbrev pub fault_of_top : Json → Option ErrorKind
fault_of_top (object inner) = None
fault_of_top _ = Some InvalidOperation

abbrev pub fault_of_tree : Option Json → Option ErrorKind
fault_of_tree None = Some SyntaxError
fault_of_tree (Some j) = fault_of_top j

-- the value of the bytes
abbrev pub context_of : Floats → List ℕ → Option Val
context_of Refused bytes = option_map value_of (data_in bytes)
context_of AsSpelled bytes = option_map spelled_value (tree_in bytes)

-- the refusal that the bytes get, if any
abbrev pub fault_of : Floats → List ℕ → Option ErrorKind
fault_of Refused bytes = fault_in bytes
fault_of AsSpelled bytes = fault_of_tree (tree_in bytes)
