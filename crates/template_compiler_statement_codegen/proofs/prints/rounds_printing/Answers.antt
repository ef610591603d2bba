use Rattle.std.proofs.Common.{arith}
use Rattle.template_compiler_statement_codegen.proofs.Writing.{not_one_passed}
use Rattle.template_compiler_statement_codegen.proofs.prints.rounds_printing.Goals as goal

pub returns-then-arguments-ne1 : goal.returns-then-arguments-ne1
returns-then-arguments-ne1 c = not_one_passed c.args.arguments.now (λ one. omega (arith, one, c.if-arguments-ne1.true))
