-- What documents have under a name, and why one is refused.
use Rattle.std.specs.Prelude.{ℕ, List, [], ◌∷◌, Option, None, Some, option_and_then, option_map}
use Rattle.std.specs.Option.{option_or}
use Rattle.template_values_errors.specs.declared.ErrorKind.{ErrorKind}
use Rattle.template_values_model.specs.Val.{Val}
use Rattle.template_values_model.specs.Lookup.{value_at}
use Rattle.json.specs.Json.{Json as Tree}
use Rattle.template_values_json.specs.Contexts.{fault_of, tree_in}
use Rattle.template_values_json.specs.Spelled.{spelled_value}
use Rattle.template_values_json.specs.declared.contexts.Floats.{Floats}
use Rattle.template_values_json.specs.declared.contexts.Floats.TheVariants.{Refused, AsSpelled}
use Rattle.template_program_parts.specs.Context.{member_under}
use Rattle.template_program_contexts.specs.Toml.{fault_of_toml, toml_member}
use Rattle.template_program_contexts.specs.declared.documents.Document.{Document}
use Rattle.template_program_contexts.specs.declared.documents.Form.{Form}
use Rattle.template_program_contexts.specs.declared.documents.Form.TheVariants.{Json, Toml}

-- what JSON has under a name, whose numbers are kept as they are spelled
abbrev pub spelled_member : Option Tree → List ℕ → Option Val
spelled_member tree name = option_and_then (value_at name) (option_map spelled_value tree)

-- what the bytes have under a name, as JSON
abbrev pub json_member : Floats → List ℕ → List ℕ → Option Val
json_member Refused bytes name = member_under (Some bytes) name
json_member AsSpelled bytes name = spelled_member (tree_in bytes) name

abbrev pub member_in : Floats → Form → List ℕ → List ℕ → Option Val
member_in floats Json bytes name = json_member floats bytes name
member_in floats Toml bytes name = toml_member bytes name

abbrev pub fault_in : Floats → Form → List ℕ → Option ErrorKind
fault_in floats Json bytes = fault_of floats bytes
fault_in floats Toml bytes = fault_of_toml bytes

-- what a document has under a name
abbrev pub member_of : Floats → Document → List ℕ → Option Val
member_of floats d name = member_in floats d.form d.bytes.now name

-- the refusal of a document, if any
abbrev pub fault_of_document : Floats → Document → Option ErrorKind
fault_of_document floats d = fault_in floats d.form d.bytes.now

-- the last document that has the name counts
abbrev pub documents_under : Floats → List Document → List ℕ → Option Val
documents_under floats [] name = None
documents_under floats (d ∷ later) name = option_or (documents_under floats later name) (member_of floats d name)

-- the first refusal is told
abbrev pub fault_of_documents : Floats → List Document → Option ErrorKind
fault_of_documents floats [] = None
fault_of_documents floats (d ∷ later) = option_or (fault_of_document floats d) (fault_of_documents floats later)
