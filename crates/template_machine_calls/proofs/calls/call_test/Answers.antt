use Rattle.std.proofs.Common.{◌-◌, Ok, sym, ap, ◌∙◌}
use Rattle.template_machine_meaning.specs.Calls.{beyond, call_plan, said}
use Rattle.template_machine_meaning.specs.Functions.{invokes, test_named}
use Rattle.template_machine_meaning.specs.Keys.{Around}
use Rattle.template_machine_meaning.specs.Plans.{with_turning}
use Rattle.template_machine_meaning.specs.Turnings.{to_truth}
use Rattle.template_machine_meaning.specs.World.{depth_of}
use Rattle.template_machine_calls.specs.Hosted.{around_under}
use Rattle.template_machine_calls.specs.Left.{Going, left_by, raw_plan, reached_by, turnings_in, with_turnings}
use Rattle.template_machine_calls.proofs.Chaining.{answered_raw, err_kept, keeps_any, planned_as, stop_planned, turned_failed, turned_true}
use Rattle.template_machine_calls.proofs.calls.call_test.Goals as goal

pub returns-in_err-outcome-clause-told : goal.returns-in_err-outcome-clause-told
returns-in_err-outcome-clause-told g c a =
    let around : Around = around_under c.args.rules (g.H.Callbacks.callables c.args.host.now) a in
    let go : Going = beyond around 0 (around.limit - depth_of c.args.state.now) in
    stop_planned (reached_by around) (call_plan around c.args.state.now (invokes (test_named c.args.name.now) c.args.args.now)) _ _ _
    (turned_failed (call_plan around c.args.state.now (invokes (test_named c.args.name.now) c.args.args.now)) (raw_plan around go c.args.state.now (test_named c.args.name.now) c.args.args.now) to_truth _ _
    (answered_raw around go c.args.state.now (test_named c.args.name.now) c.args.args.now (said around.callables (test_named c.args.name.now)))
    (c.in_err-outcome.ensures.comes a 0 go))
    c.from_residual.ensures.1

pub returns-in_err-outcome-clause-kept : goal.returns-in_err-outcome-clause-kept
returns-in_err-outcome-clause-kept g c = err_kept _ _ _ _ c.in_err-outcome.ensures.kept c.from_residual.ensures.1

pub returns-in-Err-clause-told : goal.returns-in-Err-clause-told
returns-in-Err-clause-told g c a = c.into.ensures

pub returns-in-Err-clause-kept : goal.returns-in-Err-clause-kept
returns-in-Err-clause-kept g c = c.in_ok-outcome.ensures.kept

pub returns-in-Ok-clause-told : goal.returns-in-Ok-clause-told
returns-in-Ok-clause-told g c a =
    let around : Around = around_under c.args.rules (g.H.Callbacks.callables c.args.host.now) a in
    let go : Going = beyond around 0 (around.limit - depth_of c.args.state.now) in
    planned_as (reached_by around) (call_plan around c.args.state.now (invokes (test_named c.args.name.now) c.args.args.now))
    (with_turnings (turnings_in c.push.new.self.items) (left_by around 0 (beyond around 0 c.levels_left-levels.result) c.in_ok-outcome.outcome c.ask_test.new.state)) _ _
    (answered_raw around go c.args.state.now (test_named c.args.name.now) c.args.args.now (said around.callables (test_named c.args.name.now))
    ∙ ap (with_turning to_truth)
    (c.in_ok-outcome.ensures.comes a 0 go ∙ ap (λ n. left_by around 0 (beyond around 0 n) c.in_ok-outcome.outcome c.ask_test.new.state) (sym c.levels_left-levels.ensures))
    ∙ turned_true c.push.new.self.items c.new-turnings.result.items _ c.new-turnings.ensures.items c.in-Ok.ensures.items)
    (c.conclude.ensures.comes a)

pub returns-in-Ok-clause-kept : goal.returns-in-Ok-clause-kept
returns-in-Ok-clause-kept g c = c.conclude.ensures.kept c.args.state.now (keeps_any (Ok c.in_ok-outcome.outcome) c.args.state.now c.ask_test.new.state c.in_ok-outcome.ensures.kept)
