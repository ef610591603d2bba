-- The map that is made from entries that say what the context has.
use Rattle.std.proofs.Common.{◌≡◌, ℕ, List, [], Ok, Err, IfOk, ◌∙◌}
use Rattle.std.proofs.lemmas.List.Elements.{All-nil}
use Rattle.template_values_model.specs.Val.{map}
use Rattle.template_values_model.specs.Lookup.{value_at}
use Rattle.template_values_core.specs.Maps.{collected, put_all, last_at}
use Rattle.template_values_core.specs.Shape.{pairs_in}
use Rattle.template_values_core.specs.declared.value.Entry.{Entry}
use Rattle.template_values_json.specs.declared.contexts.Floats.{Floats}
use Rattle.template_values_json.specs.Entries.{IsPlainText, ArePlain}
use Rattle.template_values_json.proofs.Made.{Made}
use Rattle.template_values_json.proofs.Plain.{text_keys}
use Rattle.template_program_contexts.specs.Context.{context_under, IsContextWith}
use Rattle.template_program_contexts.specs.Entries.{Say}
use Rattle.template_program_contexts.specs.declared.documents.Document.{Document}

pub made_context : (floats : Floats) (documents : List Document) (definitions values : List (List ℕ × List ℕ)) (es : List Entry) (made : Made)
    → Say (context_under floats documents definitions values) es → ArePlain es
    → IfOk made (λ v. v ≡ map (collected (pairs_in es))) → IfOk made (λ v. (name : List ℕ) → value_at name v ≡ last_at name (pairs_in es))
    → IfOk made (IsContextWith floats documents definitions values)
made_context floats documents definitions values es (Ok v) says plain is last =
    ((put_all [] (pairs_in es), is, text_keys [] es (All-nil IsPlainText) plain), λ name. last name ∙ says name)
made_context floats documents definitions values es (Err kinds) says plain is last = tt
