use Rattle.std.proofs.Common.{◌≡◌, ap, ◌∙◌, sym, refl, string_bytes}
use Rattle.template_values_model.specs.Val.{text}
use Rattle.template_values_core.specs.declared.value.Entry.{Entry}
use Rattle.template_values_json.specs.Contexts.{context_of}
use Rattle.template_values_json.proofs.Plain.{plain_push}
use Rattle.template_program_contexts.specs.Values.{fault_of_value}
use Rattle.template_program_contexts.proofs.EachValue.{value_passes, value_said}
use Rattle.template_program_contexts.proofs.contexts.with_values.Goals as goal

pub loop-name-preserved : goal.loop-name-preserved
loop-name-preserved c =
    let floats = c.args.floats in
    let v = c.loop-name-item.result in
    let es = c.loop-name.entries.items in
    let key : c.in_ok-key.key ≡ text (string_bytes v.0) = c.in_ok-key.ensures.made ∙ ap text c.as_str-in-loop-name.ensures.value in
    let e : Entry = record { key = c.in_ok-key.key; value = c.in_ok-value.value } in
    rw c.in_ok-push.ensures.items (record {
      fault = value_passes floats c.args.values.now c.loop-name.name-index v c.loop-name-test.true c.loop-name-item.is
          (sym (ap (fault_of_value floats) c.as_str.ensures.value) ∙ c.in_ok-value.ensures.faultless) c.loop-name.invariant.fault;
      say = value_said floats c.args.values.now c.loop-name.name-index v c.loop-name-test.true c.loop-name-item.is es e c.in_ok-value.value _ key refl
          (sym (ap (context_of floats) c.as_str.ensures.value) ∙ c.in_ok-value.ensures.is) c.loop-name.invariant.say;
      plain = λ before. plain_push es e (_, key) c.in_ok-value.ensures.shallow (c.loop-name.invariant.plain before);
    })
