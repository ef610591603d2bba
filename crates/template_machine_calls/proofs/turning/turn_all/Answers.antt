use Rattle.std.proofs.Common.{sym, ◌∙◌}
use Rattle.template_machine_meaning.specs.Plans.{Plan}
use Rattle.template_machine_calls.specs.Left.{turnings_in, value_left, with_turnings}
use Rattle.template_machine_calls.proofs.Chaining.{stop_planned}
use Rattle.template_machine_calls.proofs.Turned.{all_turned, next_turned, turning_failed}
use Rattle.template_machine_calls.proofs.turning.turn_all.Goals as goal

pub loop-turning-preserved : goal.loop-turning-preserved
loop-turning-preserved c =
    next_turned c.loop-turning.turnings.items c.pop.new.self.items c.in-Some.turning (with_turnings (turnings_in c.args.turnings.items) (value_left c.args.value c.args.state.now))
    c.loop-turning.value c.in_ok-value.value c.args.state.now c.loop-turning.invariant c.in-Some.ensures.items c.in_ok-value.ensures

pub returns-in_err-value : goal.returns-in_err-value
returns-in_err-value c =
    let plan : Plan = with_turnings (turnings_in c.args.turnings.items) (value_left c.args.value c.args.state.now) in
    stop_planned value_left plan _ _ c.args.state.now
    (turning_failed c.loop-turning.turnings.items c.pop.new.self.items c.in-Some.turning plan c.loop-turning.value c.args.state.now _ c.loop-turning.invariant c.in-Some.ensures.items
    c.in_err-value.ensures)
    c.from_residual.ensures.1

pub returns : goal.returns
returns c =
    all_turned c.loop-turning.turnings.items (with_turnings (turnings_in c.args.turnings.items) (value_left c.args.value c.args.state.now)) c.loop-turning.value c.args.state.now
    c.loop-turning.invariant (sym c.loop-turning.turnings.ok.0 ∙ c.in_default.ensures.cases.0)
