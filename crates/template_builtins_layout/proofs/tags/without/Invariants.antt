use Rattle.std.proofs.Common.{IsUtf8, length, string_bytes}
use Rattle.template_builtins_layout.proofs.Tagging.{IsLeft}
use Rattle.template_builtins_layout.proofs.tags.without.Given as goal

-- what is made of the rest stands behind what is made
abbrev pub invariant-loop-before : goal.invariant-loop-before
invariant-loop-before l = IsUtf8 l.rest × IsLeft l.start l.finish (string_bytes l.out) l.rest l.text

abbrev pub decreases-loop-before : goal.decreases-loop-before
decreases-loop-before l = length l.rest
