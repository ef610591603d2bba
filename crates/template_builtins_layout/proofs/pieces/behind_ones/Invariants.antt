use Rattle.std.proofs.Common.{length}
use Rattle.template_builtins_layout.proofs.Blanks.{Passed}
use Rattle.template_builtins_layout.proofs.pieces.behind_ones.Given as goal

abbrev pub invariant-loop-character : goal.invariant-loop-character
invariant-loop-character l = Passed l.blank l.fn.text l.rest

abbrev pub decreases-loop-character : goal.decreases-loop-character
decreases-loop-character l = length l.rest
