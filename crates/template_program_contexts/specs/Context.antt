-- The context that documents, definitions and values make.
use Rattle.std.specs.Prelude.{◌≡◌, ℕ, List, Option, option_map}
use Rattle.std.specs.Option.{option_or}
use Rattle.template_values_errors.specs.declared.ErrorKind.{ErrorKind}
use Rattle.template_values_model.specs.Val.{Val, text}
use Rattle.template_values_model.specs.Lookup.{value_at}
use Rattle.template_values_json.specs.declared.contexts.Floats.{Floats}
use Rattle.template_program_parts.specs.Context.{defined_under, IsTextMap}
use Rattle.template_program_contexts.specs.Documents.{documents_under, fault_of_documents}
use Rattle.template_program_contexts.specs.Values.{values_under, fault_of_values}
use Rattle.template_program_contexts.specs.declared.documents.Document.{Document}

-- under every name: the last value, else the text of the last definition, else what the last document has that has the name
abbrev pub context_under : Floats → List Document → List (List ℕ × List ℕ) → List (List ℕ × List ℕ) → List ℕ → Option Val
context_under floats documents definitions values name =
    option_or (values_under floats values name) (option_or (option_map text (defined_under definitions name)) (documents_under floats documents name))

-- the context: a map whose keys are plain texts, which has this under every name
abbrev pub IsContextWith : Floats → List Document → List (List ℕ × List ℕ) → List (List ℕ × List ℕ) → Val → Type 0
IsContextWith floats documents definitions values v =
    IsTextMap v × ((name : List ℕ) → value_at name v ≡ context_under floats documents definitions values name)

-- the first refusal: documents come before values
abbrev pub fault_of_all : Floats → List Document → List (List ℕ × List ℕ) → Option ErrorKind
fault_of_all floats documents values = option_or (fault_of_documents floats documents) (fault_of_values floats values)
