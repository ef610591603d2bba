use Rattle.std.proofs.Common.{◌-◌, Ok, Err, sym, ap, ◌∙◌}
use Rattle.template_machine_meaning.specs.Calls.{beyond, call_plan, said}
use Rattle.template_machine_meaning.specs.Functions.{invokes, method_of}
use Rattle.template_machine_meaning.specs.Keys.{Around}
use Rattle.template_machine_meaning.specs.World.{depth_of}
use Rattle.template_machine_calls.specs.Hosted.{around_under}
use Rattle.template_machine_calls.specs.Left.{Going, left_by, raw_plan, reached_by, turnings_in, with_turnings}
use Rattle.template_machine_calls.proofs.Chaining.{answered_raw, err_kept, keeps_any, planned_as, stop_planned, turned_none}
use Rattle.template_machine_calls.proofs.calls.call_missing.Goals as goal

pub returns-in_err-outcome-clause-told : goal.returns-in_err-outcome-clause-told
returns-in_err-outcome-clause-told g c a =
    let around : Around = around_under c.args.rules (g.H.Callbacks.callables c.args.host.now) a in
    let go : Going = beyond around 0 (around.limit - depth_of c.args.state.now) in
    stop_planned (reached_by around) (call_plan around c.args.state.now (invokes (method_of c.args.object.now c.args.name.now) c.args.args.now)) _ _ _
    (planned_as (reached_by around) (call_plan around c.args.state.now (invokes (method_of c.args.object.now c.args.name.now) c.args.args.now)) (raw_plan around go c.args.state.now (method_of c.args.object.now c.args.name.now) c.args.args.now) (Err _) _
    (answered_raw around go c.args.state.now (method_of c.args.object.now c.args.name.now) c.args.args.now (said around.callables (method_of c.args.object.now c.args.name.now)))
    (c.in_err-outcome.ensures.comes a 0 go))
    c.from_residual.ensures.1

pub returns-clause-told : goal.returns-clause-told
returns-clause-told g c a =
    let around : Around = around_under c.args.rules (g.H.Callbacks.callables c.args.host.now) a in
    let go : Going = beyond around 0 (around.limit - depth_of c.args.state.now) in
    planned_as (reached_by around) (call_plan around c.args.state.now (invokes (method_of c.args.object.now c.args.name.now) c.args.args.now))
    (with_turnings (turnings_in c.new.result.items) (left_by around 0 (beyond around 0 c.levels_left-levels.result) c.in_ok-outcome.outcome c.ask_method.new.state)) _ _
    (answered_raw around go c.args.state.now (method_of c.args.object.now c.args.name.now) c.args.args.now (said around.callables (method_of c.args.object.now c.args.name.now))
    ∙ c.in_ok-outcome.ensures.comes a 0 go ∙ ap (λ n. left_by around 0 (beyond around 0 n) c.in_ok-outcome.outcome c.ask_method.new.state) (sym c.levels_left-levels.ensures)
    ∙ turned_none c.new.result.items _ c.new.ensures.items)
    (c.conclude.ensures.comes a)

pub returns-in_err-outcome-clause-kept : goal.returns-in_err-outcome-clause-kept
returns-in_err-outcome-clause-kept g c = err_kept _ _ _ _ c.in_err-outcome.ensures.kept c.from_residual.ensures.1

pub returns-clause-kept : goal.returns-clause-kept
returns-clause-kept g c = c.conclude.ensures.kept c.args.state.now (keeps_any (Ok c.in_ok-outcome.outcome) c.args.state.now c.ask_method.new.state c.in_ok-outcome.ensures.kept)
