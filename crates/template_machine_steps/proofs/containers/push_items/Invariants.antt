use Rattle.std.proofs.Common.{◌≡◌, ◌-◌, ◌++◌, map, drop}
use Rattle.template_compiler_code.specs.Code.{single}
use Rattle.template_machine_operands.specs.Operands.{operands_in}
use Rattle.template_machine_steps.proofs.containers.push_items.Given as goal

-- the last items are there
abbrev pub invariant-loop-passed : goal.invariant-loop-passed
invariant-loop-passed l = operands_in l.operands ≡ map single (drop (l.count - l.passed) l.items) ++ operands_in l.fn.operands
