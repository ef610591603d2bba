use Rattle.std.proofs.Common.{◌≡◌, length}
use Rattle.template_machine_calls.specs.Left.{turnings_in, value_left, with_turnings}
use Rattle.template_machine_calls.proofs.turning.turn_all.Given as goal

abbrev pub invariant-loop-turning : goal.invariant-loop-turning
invariant-loop-turning l =
    with_turnings (turnings_in l.fn.turnings.items) (value_left l.fn.value l.state) ≡ with_turnings (turnings_in l.turnings.items) (value_left l.value l.state)

abbrev pub decreases-loop-turning : goal.decreases-loop-turning
decreases-loop-turning l = length l.turnings.items
