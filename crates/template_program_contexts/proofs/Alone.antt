-- One document alone, and none.
use Rattle.std.proofs.Common.{ℕ, List, option_map, sym, ap, ◌∙◌, refl}
use Rattle.std.specs.Option.{option_or}
use Rattle.template_values_model.specs.Val.{text}
use Rattle.template_values_json.specs.declared.contexts.Floats.TheVariants.{Refused}
use Rattle.template_values_json.proofs.Last.{or_none}
use Rattle.template_program_parts.specs.Context.{defined_under}
use Rattle.template_program_contexts.specs.Documents.{member_in, fault_in}
use Rattle.template_program_contexts.specs.Laws.{NoDocument, OneDocument}

pub one_document : OneDocument
one_document d definitions v json =
    let said : (name : List ℕ) → _ = λ name. ap (λ form. option_or (option_map text (defined_under definitions name)) (member_in Refused form d.bytes.now name)) json in (
      (λ is. (is.0, λ name. is.1 name ∙ said name), λ is. (is.0, λ name. is.1 name ∙ sym (said name))),
      or_none _ ∙ or_none _ ∙ ap (λ form. fault_in Refused form d.bytes.now) json,
    )

pub no_document : NoDocument
no_document definitions v = ((λ is. is, λ is. is), refl)
