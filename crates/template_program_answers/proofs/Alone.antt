-- The context that is made of bytes of JSON alone.
use Rattle.std.proofs.Common.{◌≡◌, ◌↔◌, ℕ, List, [], ◌∷◌, Option, None, Some, subst, sym}
use Rattle.template_values_model.specs.Val.{Val}
use Rattle.template_values_json.specs.declared.contexts.Floats.{Floats}
use Rattle.template_values_json.specs.declared.contexts.Floats.TheVariants.{Refused}
use Rattle.template_program_parts.specs.Context.{IsContextOf, fault_of_json}
use Rattle.template_program_contexts.specs.Context.{IsContextWith, fault_of_all}
use Rattle.template_program_contexts.specs.Laws.{NoDocument, OneDocument}
use Rattle.template_program_contexts.specs.declared.documents.Document.{Document}
use Rattle.template_program_answers.specs.Law.{JsonAlone}

abbrev IsSame : Option (List ℕ) → List (List ℕ × List ℕ) → Val → Floats → List Document → List (List ℕ × List ℕ) → Type 0
IsSame json definitions context floats documents values =
    (IsContextWith floats documents definitions values context ↔ IsContextOf json definitions context)
    × (fault_of_all floats documents values ≡ fault_of_json json)

same : (json : Option (List ℕ)) (definitions : List (List ℕ × List ℕ)) (context : Val) (floats : Floats) (documents others : List Document)
    (values : List (List ℕ × List ℕ)) → documents ≡ others → values ≡ [] → floats ≡ Refused
    → IsSame json definitions context Refused others [] → IsSame json definitions context floats documents values
same json definitions context floats documents others values these none refused is =
    subst (λ f. IsSame json definitions context f documents values) (sym refused)
    (subst (λ ds. IsSame json definitions context Refused ds values) (sym these)
    (subst (λ vs. IsSame json definitions context Refused others vs) (sym none) is))

pub alone : OneDocument → NoDocument → JsonAlone
alone one none None given is definitions context =
    same None definitions context given.floats given.documents _ given.values is.documents is.values is.floats (none definitions context)
alone one none (Some bytes) given is definitions context =
    let d = is.documents in
    same (Some bytes) definitions context given.floats given.documents _ given.values d.1 is.values is.floats
    (subst (λ (b : List ℕ). IsSame (Some b) definitions context Refused (d.0 ∷ []) []) d.3 (one d.0 definitions context d.2))
