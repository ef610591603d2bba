use Rattle.std.proofs.Common.{◌-◌, sym, ap, ◌∙◌}
use Rattle.template_machine_meaning.specs.Calls.{beyond, call_plan}
use Rattle.template_machine_meaning.specs.Keys.{Around}
use Rattle.template_machine_meaning.specs.World.{depth_of}
use Rattle.template_machine_calls.specs.Hosted.{around_under}
use Rattle.template_machine_calls.specs.Left.{Going, left_by, reached_by, turnings_in, with_turnings}
use Rattle.template_machine_calls.proofs.Chaining.{err_kept, planned_as, stop_planned, turned_none}
use Rattle.template_machine_calls.proofs.calls.call.Goals as goal

pub returns-in_err-outcome-clause-told : goal.returns-in_err-outcome-clause-told
returns-in_err-outcome-clause-told g c a came comes =
    let around : Around = around_under c.args.rules (g.H.Callbacks.callables c.args.host.now) a in
    let go : Going = beyond around 0 (around.limit - depth_of c.args.state.now) in
    stop_planned (reached_by around) (call_plan around c.args.state.now came) _ _ _ (c.in_err-outcome.ensures.comes a 0 go came comes) c.from_residual.ensures.1

pub returns-clause-told : goal.returns-clause-told
returns-clause-told g c a came comes =
    let around : Around = around_under c.args.rules (g.H.Callbacks.callables c.args.host.now) a in
    let go : Going = beyond around 0 (around.limit - depth_of c.args.state.now) in
    planned_as (reached_by around) (call_plan around c.args.state.now came) (with_turnings (turnings_in c.new.result.items) (left_by around 0 (beyond around 0 c.levels_left-levels.result) c.in_ok-outcome.outcome c.begin.new.state)) _ _
    (c.in_ok-outcome.ensures.comes a 0 go came comes ∙ ap (λ n. left_by around 0 (beyond around 0 n) c.in_ok-outcome.outcome c.begin.new.state) (sym c.levels_left-levels.ensures)
    ∙ turned_none c.new.result.items _ c.new.ensures.items)
    (c.conclude.ensures.comes a)

pub returns-in_err-outcome-clause-kept : goal.returns-in_err-outcome-clause-kept
returns-in_err-outcome-clause-kept g c = err_kept _ _ _ _ c.in_err-outcome.ensures.kept c.from_residual.ensures.1

pub returns-clause-kept : goal.returns-clause-kept
returns-clause-kept g c = c.conclude.ensures.kept c.args.state.now c.in_ok-outcome.ensures.kept
