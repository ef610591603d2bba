use Rattle.std.proofs.Common.{arith}
use Rattle.template_compiler_code_shapes.proofs.OutlineLemmas.{takes_no_run}
use Rattle.template_compiler_code_shapes.proofs.outline.Outline.take_run.Goals as goal

pub returns-then-self-ne0-clause-taken : goal.returns-then-self-ne0-clause-taken
returns-then-self-ne0-clause-taken c = takes_no_run c.args.self.now (λ none xs u is such. (let apart = c.if-self-ne0.true in omega arith))
