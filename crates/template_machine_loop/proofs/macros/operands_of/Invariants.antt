use Rattle.std.proofs.Common.{◌≡◌, ◌++◌, length, map, reverse}
use Rattle.template_compiler_code.specs.Code.{single}
use Rattle.template_machine_operands.specs.Operands.{operands_in}
use Rattle.template_machine_loop.proofs.macros.operands_of.Given as goal

abbrev pub decreases-loop-argument : goal.decreases-loop-argument
decreases-loop-argument l = length l.rest.items

abbrev pub invariant-loop-argument : goal.invariant-loop-argument
invariant-loop-argument l = map single (reverse l.fn.arguments.items) ≡ map single l.rest.items ++ operands_in l.operands
