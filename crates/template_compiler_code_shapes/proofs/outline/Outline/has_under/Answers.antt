use Rattle.std.proofs.Common.{sym, arith}
use Rattle.template_compiler_code_shapes.proofs.OutlineLemmas.{lacks_under}
use Rattle.template_compiler_code_shapes.proofs.outline.Outline.has_under.Goals as goal

pub returns-then-self-ne1 : goal.returns-then-self-ne1
returns-then-self-ne1 c = sym (lacks_under c.args.self.now c.args.other (λ one xs u is such. (let apart = c.if-self-ne1.true in omega arith)))
