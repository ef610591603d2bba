-- What one document alone makes, and none.
use Rattle.std.specs.Prelude.{◌≡◌, ◌↔◌, ℕ, List, [], ◌∷◌, None, Some}
use Rattle.template_values_model.specs.Val.{Val}
use Rattle.template_values_json.specs.declared.contexts.Floats.TheVariants.{Refused}
use Rattle.template_program_parts.specs.Context.{fault_of_json, IsContextOf}
use Rattle.template_program_contexts.specs.Context.{fault_of_all, IsContextWith}
use Rattle.template_program_contexts.specs.declared.documents.Document.{Document}
use Rattle.template_program_contexts.specs.declared.documents.Form.TheVariants.{Json}

-- one JSON document, whose floats are refused, makes what `read_context` reads of its bytes, and is refused as there
abbrev pub OneDocument : Type 0
OneDocument = (d : Document) (definitions : List (List ℕ × List ℕ)) (v : Val) → d.form ≡ Json
    → (IsContextWith Refused (d ∷ []) definitions [] v ↔ IsContextOf (Some d.bytes.now) definitions v)
    × (fault_of_all Refused (d ∷ []) [] ≡ fault_of_json (Some d.bytes.now))

-- no document makes what `read_context` makes without bytes
abbrev pub NoDocument : Type 0
NoDocument = (definitions : List (List ℕ × List ℕ)) (v : Val)
    → (IsContextWith Refused [] definitions [] v ↔ IsContextOf None definitions v) × (fault_of_all Refused [] [] ≡ fault_of_json None)
