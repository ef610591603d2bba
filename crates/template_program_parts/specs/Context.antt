-- The context of a render: what the JSON and the definitions have under each name.
use Rattle.std.specs.Prelude.{◌≡◌, ℕ, List, [], ◌∷◌, Option, None, Some, String, string_bytes, map as each, option_map, option_and_then, if◌then◌else◌}
use Rattle.std.specs.List.{All}
use Rattle.std.specs.Map.{keys_of}
use Rattle.std.specs.Option.{option_or}
use Rattle.std.specs.Str.{bytes_eq}
use Rattle.std.specs.declared.alloc.Global.{Global}
use Rattle.serde_json.specs.Find.{get}
use Rattle.template_values_errors.specs.declared.ErrorKind.{ErrorKind}
use Rattle.template_values_model.specs.Val.{Val, text, map}
use Rattle.template_values_model.specs.Lookup.{value_at}
use Rattle.template_values_core.specs.Maps.{pairs_of}
use Rattle.template_values_json.specs.Entries.{IsPlainText}
use Rattle.template_values_json.specs.Json.{data_in, fault_in, value_of}

-- the refusal that the bytes get, if any; with no bytes there is none
abbrev pub fault_of_json : Option (List ℕ) → Option ErrorKind
fault_of_json None = None
fault_of_json (Some bytes) = fault_in bytes

-- the value of the member of that name
abbrev pub member_under : Option (List ℕ) → List ℕ → Option Val
member_under None name = None
member_under (Some bytes) name = option_map value_of (option_and_then (get name) (data_in bytes))

-- the text of the last definition of the name
abbrev pub defined_under : List (List ℕ × List ℕ) → List ℕ → Option (List ℕ)
defined_under [] name = None
defined_under (d ∷ later) name = option_or (defined_under later name) (if bytes_eq d.0 name then Some d.1 else None)

-- the names and the texts of definitions
abbrev pub text_pairs : List (String Global × String Global) → List (List ℕ × List ℕ)
text_pairs definitions = each (λ d. (string_bytes d.0, string_bytes d.1)) definitions

-- under every name: the text of its last definition, else the member's value
abbrev pub context_under : Option (List ℕ) → List (List ℕ × List ℕ) → List ℕ → Option Val
context_under json definitions name = option_or (option_map text (defined_under definitions name)) (member_under json name)

-- a map whose keys are plain texts
abbrev pub IsTextMap : Val → Type 0
IsTextMap v = (pairs : List (Val × Val)) × (v ≡ map (pairs_of pairs)) × All IsPlainText (keys_of pairs)

-- the context: such a map that has this under every name
abbrev pub IsContextOf : Option (List ℕ) → List (List ℕ × List ℕ) → Val → Type 0
IsContextOf json definitions v = IsTextMap v × ((name : List ℕ) → value_at name v ≡ context_under json definitions name)
