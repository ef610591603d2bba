use Rattle.std.proofs.Common.{refl}
use Rattle.template_compiled.specs.Sources.{tree_in}
use Rattle.template_compiled.proofs.compiled.CompiledTemplate.with_auto_escape.Goals as goal

-- the tree of a source does not hang on its escapes
pub invariant_of-result : goal.invariant_of-result
unfolding tree_in
invariant_of-result c =
    let kept = c.self.invariant in
    (record { usable = kept.0.usable; fits = kept.0.fits; has_tree = kept.0.has_tree; is_escape = refl }, kept.1, kept.2)
