use Rattle.std.proofs.Common.{◌≡◌, length}
use Rattle.template_compiler_code.specs.Steps.{values_in}
use Rattle.template_machine_operands.specs.Operands.{operands_in}
use Rattle.template_machine_operands.proofs.Operands.take_uppermost.Given as goal

-- no value is let go
abbrev pub invariant-loop-self : goal.invariant-loop-self
invariant-loop-self l = values_in (operands_in l.self) ≡ values_in (operands_in l.fn.self)

abbrev pub decreases-loop-self : goal.decreases-loop-self
decreases-loop-self l = length l.self.runs.items
