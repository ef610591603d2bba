use Rattle.std.proofs.Common.{[], refl}
use Rattle.template_compiler_code_shapes.specs.declared.StreamKind.TheVariants.{Template}
use Rattle.template_compiler_code_shapes.specs.Shapes.{start}
use Rattle.template_compiler_code_shapes.specs.Streams.{begins}
use Rattle.template_compiler_generator.proofs.certificates.templates_go_on.Goals as goal

pub returns : goal.returns
returns c = λ tree runs answers bound enough.
    let certified = c.templates_are_certified.ensures tree runs in
    let good = c.certified_is_good.ensures Template _ certified.0 certified.1 in
    c.good_goes_on.ensures Template _ good answers bound 0 start [] begins refl enough
