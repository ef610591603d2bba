use Rattle.std.proofs.Common.{arith}
use Rattle.template_compiler_code_shapes.proofs.OutlineLemmas.{takes_no_pair}
use Rattle.template_compiler_code_shapes.proofs.outline.Outline.take_pair.Goals as goal

pub returns-then-self-ne1-clause-taken : goal.returns-then-self-ne1-clause-taken
returns-then-self-ne1-clause-taken c = takes_no_pair c.args.self.now c.args.other (λ one xs u is such. (let apart = c.if-self-ne1.true in omega arith))
