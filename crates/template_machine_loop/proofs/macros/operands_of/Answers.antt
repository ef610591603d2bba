use Rattle.std.proofs.Common.{map, reverse, sym, arith}
use Rattle.template_compiler_code.specs.Code.{single}
use Rattle.template_machine_operands.specs.Operands.{operands_in}
use Rattle.template_machine_loop.proofs.Beginnings.{handed_all, handed_none, handed_on}
use Rattle.template_machine_loop.proofs.macros.operands_of.Goals as goal

pub loop-argument-init : goal.loop-argument-init
loop-argument-init c = handed_none c.args.arguments.items c.reverse.new.self.items (operands_in c.new-operands.result) c.reverse.ensures.items c.new-operands.ensures

pub loop-argument-preserved : goal.loop-argument-preserved
loop-argument-preserved c =
    handed_on c.loop-argument.rest.items c.pop.new.self.items c.in-Some.argument (map single (reverse c.args.arguments.items)) (operands_in c.loop-argument.operands)
    (operands_in c.push.new.self) c.loop-argument.invariant c.in-Some.ensures.items c.in_ok-push.ensures.pushed

pub returns-clause-operands : goal.returns-clause-operands
returns-clause-operands c =
    sym (handed_all c.loop-argument.rest.items (map single (reverse c.args.arguments.items)) (operands_in c.loop-argument.operands) c.loop-argument.invariant
    (omega (arith, c.in_default.ensures.cases.0, c.loop-argument.rest.ok.0)))
