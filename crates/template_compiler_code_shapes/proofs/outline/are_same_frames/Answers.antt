use Rattle.std.proofs.Common.{rules, ◌≡◌, arith}
use Rattle.std.proofs.lemmas.Grind.{common_steps}
use Rattle.std.proofs.lemmas.Slice.Eq.{slice_eq-Decides}
use Rattle.std.specs.Bool.{Decides}
use Rattle.template_compiler_code_shapes.specs.Shapes.{Opened, with_frame, loop_frame, recursive_frame}
use Rattle.template_compiler_code_shapes.specs.contracts.outline.OpenedPartialEq.TheImpl as frames
use Rattle.template_compiler_code_shapes.proofs.outline.are_same_frames.Goals as goal

decides : (a b : Opened) → Decides (frames.ghosts.eq a b) (a ≡ b)
decides with_frame with_frame = search rules
decides with_frame (loop_frame q) = grind (arith, common_steps)
decides with_frame (recursive_frame q g) = grind (arith, common_steps)
decides (loop_frame p) with_frame = grind (arith, common_steps)
decides (loop_frame p) (loop_frame q) = grind (arith, common_steps)
decides (loop_frame p) (recursive_frame q g) = grind (arith, common_steps)
decides (recursive_frame p f) with_frame = grind (arith, common_steps)
decides (recursive_frame p f) (loop_frame q) = grind (arith, common_steps)
decides (recursive_frame p f) (recursive_frame q g) = grind (arith, common_steps)

pub returns : goal.returns
returns c = slice_eq-Decides decides c.args.frames.now c.args.others.now c.eq.result c.eq.ensures
