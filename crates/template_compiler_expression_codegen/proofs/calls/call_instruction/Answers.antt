use Rattle.template_compiler_expression_codegen.proofs.Begun.{value_called}
use Rattle.template_compiler_expression_codegen.proofs.calls.call_instruction.Goals as goal

pub returns-in_default : goal.returns-in_default
returns-in_default c = value_called c.args.callee.now c.args.count c.in_default.not-Var c.in_default.not-GetAttr
