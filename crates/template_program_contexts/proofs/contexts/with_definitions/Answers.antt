use Rattle.std.proofs.Common.{◌≡◌, ap, ◌∙◌, arith, string_bytes}
use Rattle.template_values_model.specs.Val.{text}
use Rattle.template_values_core.specs.Depth.{depth}
use Rattle.template_values_core.specs.declared.value.Entry.{Entry}
use Rattle.template_values_json.proofs.Plain.{plain_push}
use Rattle.template_program_contexts.proofs.EachDefinition.{definition_said}
use Rattle.template_program_contexts.proofs.contexts.with_definitions.Goals as goal

pub loop-name-preserved : goal.loop-name-preserved
loop-name-preserved c =
    let d = c.loop-name-item.result in
    let es = c.loop-name.entries.items in
    let key : c.in_ok-key.key ≡ text (string_bytes d.0) = c.in_ok-key.ensures.made ∙ ap text c.as_str.ensures.value in
    let value : c.in_ok-value.value ≡ text (string_bytes d.1) = c.in_ok-value.ensures.made ∙ ap text c.as_str-in-loop-name.ensures.value in
    let e : Entry = record { key = c.in_ok-key.key; value = c.in_ok-value.value } in
    rw c.in_ok-push.ensures.items (record {
      say = definition_said c.args.definitions.now c.loop-name.name-index d c.loop-name-test.true c.loop-name-item.is es e _ key value c.loop-name.invariant.say;
      plain = λ before. plain_push es e (_, key) (omega (arith, ap depth value)) (c.loop-name.invariant.plain before);
    })
