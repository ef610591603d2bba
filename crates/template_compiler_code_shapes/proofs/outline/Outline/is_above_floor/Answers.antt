use Rattle.template_compiler_code_shapes.proofs.OutlineLemmas.{above_by_values}
use Rattle.template_compiler_code_shapes.proofs.outline.Outline.is_above_floor.Goals as goal

pub returns-then-floor-self-clause-above : goal.returns-then-floor-self-clause-above
returns-then-floor-self-clause-above c = above_by_values c.args.self.now c.floor-floor.result c.floor-floor.ensures c.if-floor-self.true
