use Rattle.std.proofs.Common.{refl, arith}
use Rattle.template_builtins_layout.proofs.Counting.{shorter}
use Rattle.template_builtins_layout.proofs.Broken.{word_end, word_more}
use Rattle.template_builtins_layout.proofs.wrapping.push_word.Goals as goal

pub loop-character-init : goal.loop-character-init
loop-character-init c = record { made = refl; behind = refl; text = c.utf8.word }

pub loop-character-preserved : goal.loop-character-preserved
loop-character-preserved c =
    word_more _ _ _ _ _ _ _ _ _ _ _ _ _ c.loop-character.invariant c.in-Some.ensures.parts c.in-Some.ensures.rest c.in_ok-left.ensures.made c.in_ok-left.ensures.left

pub loop-character-smaller : goal.loop-character-smaller
loop-character-smaller c = omega (arith, shorter _ _ c.in-Some.ensures.parts.0 c.in-Some.ensures.parts.2)

pub returns-clause-made : goal.returns-clause-made
returns-clause-made c = (word_end _ _ _ _ _ _ _ _ _ c.loop-character.invariant c.in_default.ensures.parts).0

pub returns-clause-left : goal.returns-clause-left
returns-clause-left c = (word_end _ _ _ _ _ _ _ _ _ c.loop-character.invariant c.in_default.ensures.parts).1
