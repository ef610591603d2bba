use Rattle.template_compiler_code_shapes.specs.Outlines.{shape_of}
use Rattle.template_compiler_code_shapes.proofs.OutlineLemmas.{no_end}
use Rattle.template_compiler_code_shapes.proofs.outline.Outline.end_kind.Goals as goal

pub returns-clause-none : goal.returns-clause-none
returns-clause-none c = λ none kind e.
    no_end (shape_of c.args.self.now) (shape_of c.end-nothing.result) (shape_of c.end-value.result) c.is_same.result c.is_same-2.result c.end-nothing.ensures c.end-value.ensures
    c.is_same.ensures c.is_same-2.ensures c.if-is_same.false c.if-is_same-2.false kind e
