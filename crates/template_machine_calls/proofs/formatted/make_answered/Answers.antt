use Rattle.std.proofs.Common.{Option, Ok, subst}
use Rattle.template_callables.specs.Callbacks.{FormatsUnder}
use Rattle.template_callables.specs.declared.format.FormatAnswer.{FormatAnswer}
use Rattle.template_machine_calls.proofs.Formatting.{answered_none, answered_some, err_made, made_as}
use Rattle.template_machine_calls.proofs.formatted.make_answered.Goals as goal

pub returns-in-Some : goal.returns-in-Some
returns-in-Some c formats view states =
    answered_some c.args.state.now view c.args.value.now formats c.in-Some.given _ _
    (subst (λ (o : Option FormatAnswer). FormatsUnder formats view c.args.value.now o) c.in-Some.is states) c.make_given.ensures

pub returns-in_err-make_text-in-None : goal.returns-in_err-make_text-in-None
returns-in_err-make_text-in-None c formats view states =
    answered_none c.args.state.now view c.args.value.now formats _ _
    (subst (λ (o : Option FormatAnswer). FormatsUnder formats view c.args.value.now o) c.in-None.is states)
    (err_made c.args.state.now c.args.value.now _ _ _ _ c.auto_escape.ensures c.in_err-make_text-in-None.ensures c.from_residual.ensures.1)

pub returns-in_ok-make_text-in-None : goal.returns-in_ok-make_text-in-None
returns-in_ok-make_text-in-None c formats view states =
    answered_none c.args.state.now view c.args.value.now formats (Ok tt) _
    (subst (λ (o : Option FormatAnswer). FormatsUnder formats view c.args.value.now o) c.in-None.is states)
    (made_as c.args.state.now c.args.value.now _ (Ok tt) _ c.auto_escape.ensures c.in_ok-make_text-in-None.ensures)
