use Rattle.template_builtins_layout.proofs.Blanks.{fewer}
use Rattle.template_builtins_layout.proofs.Broken.{line_all, line_end, line_more}
use Rattle.template_builtins_layout.proofs.wrapping.push_line.Goals as goal

pub loop-gap-init : goal.loop-gap-init
loop-gap-init c = line_all _ _ _ _ _ _ c.utf8.line

pub loop-gap-preserved : goal.loop-gap-preserved
loop-gap-preserved c =
    line_more _ _ _ _ _ _ _ _ _ _ _ _ _ _ c.loop-gap.invariant c.in-Some.ensures.parts c.in-Some.ensures.rest c.in_ok-start.ensures.made c.in_ok-start.ensures.left c.in_ok-room.ensures.made c.in_ok-room.ensures.left

pub loop-gap-smaller : goal.loop-gap-smaller
loop-gap-smaller c = fewer _ _ _ c.in-Some.ensures.parts

pub returns-clause-made : goal.returns-clause-made
returns-clause-made c = line_end _ _ _ _ _ _ _ _ c.loop-gap.invariant c.in_default.ensures.parts
