use Rattle.template_compiler_code_shapes.specs.Outlines.{shape_of}
use Rattle.template_compiler_code_shapes.proofs.OutlineLemmas.{over_as_same}
use Rattle.template_compiler_code_shapes.proofs.outline.Outline.is_over.Goals as goal

pub returns : goal.returns
returns c = over_as_same c.is_same.result (shape_of c.args.self.now) (shape_of c.body-nothing.result) c.body-nothing.ensures c.is_same.ensures
