use Rattle.std.proofs.Common.{◌≡◌, ◌+◌, [], ◌∷◌, ◌++◌, take, sym, ap, ◌∙◌, arith, string_bytes}
use Rattle.std.proofs.lemmas.List.{take_more}
use Rattle.template_values_model.specs.Val.{text}
use Rattle.template_values_core.specs.Depth.{depth}
use Rattle.template_values_core.specs.declared.value.Entry.{Entry}
use Rattle.template_program_parts.proofs.Definitions.{say_definition}
use Rattle.template_values_json.proofs.Plain.{plain_push}
use Rattle.template_program_parts.proofs.contexts.context_entries.Goals as goal

pub loop-name-preserved : goal.loop-name-preserved
loop-name-preserved c =
    let i = c.loop-name.name-index in
    let ds = c.args.definitions.now in
    let d = c.loop-name-item.result in
    let key : c.in_ok-key.key ≡ text (string_bytes d.0) = c.in_ok-key.ensures.made ∙ ap text c.as_str.ensures.value in
    let value : c.in_ok-value.value ≡ text (string_bytes d.1) = c.in_ok-value.ensures.made ∙ ap text c.as_str-in-loop-name.ensures.value in
    let e : Entry = record { key = c.in_ok-key.key; value = c.in_ok-value.value } in
    let more : take (i + 1) ds ≡ take i ds ++ d ∷ [] = take_more ds i d c.loop-name-test.true ∙ ap (λ x. take i ds ++ x ∷ []) (sym c.loop-name-item.is) in
    rw (c.in_ok-push.ensures.items, more) (
      say_definition _ (take i ds) d c.loop-name.entries.items e key value c.loop-name.invariant.0,
      plain_push c.loop-name.entries.items e (_, key) (omega (arith, ap depth value)) c.loop-name.invariant.1,
      c.loop-name.invariant.2,
    )
