use Rattle.template_values_operators.proofs.Powers.{Squaring}
use Rattle.template_values_operators.proofs.numbers.size_of_power.Given as goal

abbrev pub invariant-loop-left : goal.invariant-loop-left
invariant-loop-left l = Squaring l.base l.exponent l.power l.square l.left

abbrev pub decreases-loop-left : goal.decreases-loop-left
decreases-loop-left l = l.left
