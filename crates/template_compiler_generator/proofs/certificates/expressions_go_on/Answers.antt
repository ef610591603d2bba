use Rattle.std.proofs.Common.{[], refl}
use Rattle.template_compiler_code_shapes.specs.declared.StreamKind.TheVariants.{Expression}
use Rattle.template_compiler_code_shapes.specs.Shapes.{start}
use Rattle.template_compiler_code_shapes.specs.Streams.{begins}
use Rattle.template_compiler_generator.proofs.certificates.expressions_go_on.Goals as goal

pub returns : goal.returns
returns c = λ tree runs answers bound enough.
    let certified = c.expressions_are_certified.ensures tree runs in
    let good = c.certified_is_good.ensures Expression _ certified.0 certified.1 in
    c.good_goes_on.ensures Expression _ good answers bound 0 start [] begins refl enough
