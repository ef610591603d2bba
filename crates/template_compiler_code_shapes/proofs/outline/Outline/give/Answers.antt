use Rattle.std.proofs.Common.{arith}
use Rattle.std.proofs.lemmas.Grind.{common_steps}
use Rattle.template_compiler_code_shapes.proofs.OutlineLemmas.{gives}
use Rattle.template_compiler_code_shapes.proofs.outline.Outline.give.Goals as goal

pub returns-in-Some-clause-given : goal.returns-in-Some-clause-given
returns-in-Some-clause-given c = gives c.args.self.now c.args.count c.in-Some.values (grind (arith, common_steps))
