use Rattle.std.proofs.Common.{◌≡◌}
use Rattle.template_machine_meaning.specs.Functions.{numbers_from}
use Rattle.template_machine_operations.proofs.ranges.numbers.Given as goal

abbrev pub invariant-loop-round : goal.invariant-loop-round
invariant-loop-round l = l.numbers.items ≡ numbers_from l.start l.step l.round
