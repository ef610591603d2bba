use Rattle.std.proofs.Common.{Some, subst}
use Rattle.std.specs.Prelude.{string_bytes}
use Rattle.template_values_forms.specs.Escaped.{escaped}
use Rattle.template_machine_meaning.specs.Records.{known_of}
use Rattle.template_machine_meaning.specs.Replies.{guarded, kinded}
use Rattle.template_machine_meaning.specs.Undefined.{forbids_printing}
use Rattle.template_machine_operations.specs.Outcomes.{Prints}
use Rattle.template_machine_steps.specs.Performs.{ruled}
use Rattle.template_machine_perform.proofs.Lifting.{same_keeps}
use Rattle.template_machine_perform.proofs.Catching.{value_caught, kept_catches, recaptured_keeps, drops_catch}
use Rattle.template_machine_perform.proofs.writing.capture_value.Goals as goal

pub returns-in-Some : goal.returns-in-Some
returns-in-Some c program limit below plain =
    value_caught (ruled program limit c.args.mode) c.args.value.now below c.args.state.now _ c.print-done.result 0
    (recaptured_keeps _ _ c.args.state.now c.take_captured.new.self c.put_captured.new.self c.in-Some.ensures.emptied c.put_captured.ensures)
    plain c.requires c.print-done.ensures.failures
    (kept_catches _ c.print-done.result _ _ c.args.state.now _ _ 0 c.in-Some.ensures.taken c.in-Some.ensures.emptied c.put_captured.ensures
    (subst (λ w. Prints (guarded (forbids_printing c.args.mode c.args.value.now) (kinded (escaped c.args.state.now.escape (known_of w) c.args.value.now))) c.print-done.result (Some (string_bytes c.in-Some.text)) (Some (string_bytes c.print-done.new.sink))) c.in-Some.ensures.emptied
    (subst (λ e. Prints (guarded (forbids_printing c.args.mode c.args.value.now) (kinded (escaped e (known_of c.take_captured.new.self) c.args.value.now))) c.print-done.result (Some (string_bytes c.in-Some.text)) (Some (string_bytes c.print-done.new.sink))) c.auto_escape-escape.ensures c.print-done.ensures.written))
    c.print-done.ensures.failures)

pub returns-in-None : goal.returns-in-None
returns-in-None c program limit below plain =
    value_caught (ruled program limit c.args.mode) c.args.value.now below c.args.state.now _ c.print.result 0
    (same_keeps c.args.state.now _ c.in-None.ensures.unchanged)
    plain c.requires c.print.ensures.failures
    (drops_catch _ c.print.result c.args.state.now _ 0 c.in-None.ensures.dropped c.in-None.ensures.unchanged
    (subst (λ w. Prints (guarded (forbids_printing c.args.mode c.args.value.now) (kinded (escaped c.args.state.now.escape (known_of w) c.args.value.now))) c.print.result _ _) c.in-None.ensures.unchanged
    (subst (λ e. Prints (guarded (forbids_printing c.args.mode c.args.value.now) (kinded (escaped e (known_of c.take_captured.new.self) c.args.value.now))) c.print.result _ _) c.auto_escape-escape.ensures c.print.ensures.written))
    c.print.ensures.failures)
