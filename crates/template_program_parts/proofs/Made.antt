-- The map that is made from entries that say what the context has.
use Rattle.std.proofs.Common.{◌≡◌, ℕ, List, [], Option, Ok, Err, IfOk, ◌∙◌, String, Global}
use Rattle.std.proofs.lemmas.List.Elements.{All-nil}
use Rattle.template_values_model.specs.Val.{map}
use Rattle.template_values_model.specs.Lookup.{value_at}
use Rattle.template_values_core.specs.Maps.{collected, put_all, last_at}
use Rattle.template_values_core.specs.Shape.{pairs_in}
use Rattle.template_values_core.specs.declared.value.Entry.{Entry}
use Rattle.template_program_parts.specs.Context.{text_pairs, IsContextOf}
use Rattle.template_program_parts.specs.Entries.{SayContext}
use Rattle.template_values_json.specs.Entries.{IsPlainText, ArePlain}
use Rattle.template_values_json.proofs.Made.{Made}
use Rattle.template_values_json.proofs.Plain.{text_keys}

pub made_context : (json : Option (List ℕ)) (ds : List (String Global × String Global)) (es : List Entry) (made : Made) → SayContext json ds es → ArePlain es
    → IfOk made (λ v. v ≡ map (collected (pairs_in es))) → IfOk made (λ v. (name : List ℕ) → value_at name v ≡ last_at name (pairs_in es))
    → IfOk made (IsContextOf json (text_pairs ds))
made_context json ds es (Ok v) says plain is last = ((put_all [] (pairs_in es), is, text_keys [] es (All-nil IsPlainText) plain), λ name. last name ∙ says name)
made_context json ds es (Err kinds) says plain is last = tt
