use Rattle.template_callables.specs.Views.{seen_in}
use Rattle.template_machine_meaning.specs.Calls.{said, view_of}
use Rattle.template_machine_meaning.specs.Functions.{test_named}
use Rattle.template_machine_meaning.specs.Keys.{Around}
use Rattle.template_machine_calls.specs.Hosted.{around_under}
use Rattle.template_machine_calls.proofs.Beginning.{answers_as}
use Rattle.template_machine_calls.proofs.asking.ask_test.Goals as goal

pub returns-clause-comes : goal.returns-clause-comes
returns-clause-comes g c a pending go =
    let around : Around = around_under c.args.rules (g.H.Callbacks.callables c.args.host.now) a in
    c.heard.ensures.comes around pending go (said around.callables (test_named c.args.name.now)) (view_of around c.args.state.now) c.args.args.now
    (answers_as (said around.callables (test_named c.args.name.now)) (seen_in c.view-view.result) (view_of around c.args.state.now) c.args.args.now c.test-answer.result
    (c.view-view.ensures around) c.test-answer.ensures)
