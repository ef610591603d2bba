use Rattle.template_callables.specs.Views.{seen_in}
use Rattle.template_machine_meaning.specs.Calls.{view_of}
use Rattle.template_machine_meaning.specs.Keys.{Around}
use Rattle.template_machine_calls.specs.Hosted.{around_under}
use Rattle.template_machine_calls.proofs.Formatting.{forbidden_so, let_through, states_as}
use Rattle.template_machine_calls.proofs.formatted.make_formatted.Goals as goal

pub returns-then-forbids_printing : goal.returns-then-forbids_printing
returns-then-forbids_printing g c a =
    let around : Around = around_under c.args.rules (g.H.Callbacks.callables c.args.host.now) a in
    forbidden_so around c.args.state.now c.args.value.now _ _ c.forbids_printing.ensures c.if-forbids_printing.true c.new.ensures

pub returns : goal.returns
returns g c a =
    let around : Around = around_under c.args.rules (g.H.Callbacks.callables c.args.host.now) a in
    let_through around c.args.state.now c.args.value.now _ _ _ c.forbids_printing.ensures c.if-forbids_printing.false
    (c.make_answered.ensures around.callables.formats (view_of around c.args.state.now)
    (states_as around.callables.formats (seen_in c.view-view.result) (view_of around c.args.state.now) c.args.value.now c.format-answer.result
    (c.view-view.ensures around) c.format-answer.ensures))
