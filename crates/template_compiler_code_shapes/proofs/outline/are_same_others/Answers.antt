use Rattle.std.proofs.Common.{◌≡◌, arith}
use Rattle.std.proofs.lemmas.Grind.{common_steps}
use Rattle.std.proofs.lemmas.Slice.Eq.{slice_eq-Decides}
use Rattle.std.specs.Bool.{Decides}
use Rattle.template_compiler_code_shapes.specs.declared.outline.Under.{Under}
use Rattle.template_compiler_code_shapes.specs.contracts.outline.UnderPartialEq.TheImpl as unders
use Rattle.template_compiler_code_shapes.proofs.outline.are_same_others.Goals as goal

decides : (a b : Under) → Decides (unders.ghosts.eq a b) (a ≡ b)
decides a b = grind (arith, common_steps)

pub returns : goal.returns
returns c = slice_eq-Decides decides c.args.under.now c.args.others.now c.eq.result c.eq.ensures
