use Rattle.std.proofs.Common.{◌≡◌, ◌∙◌, [], ◌∷◌, ◌++◌, ap, append_assoc, map, string_bytes, sym}
use Rattle.serde_json.specs.Data.{string}
use Rattle.serde_json.specs.View.{view}
use Rattle.template_program_run.proofs.Listing.{alike_more, copy_seen}
use Rattle.template_program_run.proofs.names.json_texts.Goals as goal

pub loop-name-preserved : goal.loop-name-preserved
loop-name-preserved c =
    let parts = c.loop-name.invariant.parts in
    let name = c.in-Some.name.now in
    let next : c.loop-name.name-iterator ≡ name ∷ c.next.new.self = c.in-Some.ensures.steps in
    record {
      parts = (
        parts.0 ++ name ∷ [],
        parts.1 ∙ ap (λ names. parts.0 ++ names) next ∙ sym (append_assoc parts.0 (name ∷ []) c.next.new.self),
        ap (λ texts. map view texts) c.in_ok-push.ensures.items
            ∙ alike_more view (λ text. string (string_bytes text)) c.loop-name.texts.items parts.0 _ name parts.2 (copy_seen c.in_ok-clone.field-0 name c.in_ok-clone.ensures.cases),
      );
    }
