use Rattle.std.proofs.Common.{IsUtf8, length, string_bytes}
use Rattle.template_callables.specs.Views.{seen_in}
use Rattle.template_builtins_fields.proofs.Filling.{IsLeft}
use Rattle.template_builtins_fields.proofs.formats.filled.Given as goal

-- what is made of the rest stands behind what is made
abbrev pub invariant-loop-before : goal.invariant-loop-before
invariant-loop-before l = IsUtf8 l.rest × IsLeft (seen_in l.view) l.arguments l.text (string_bytes l.out) l.numbering l.rest

abbrev pub decreases-loop-before : goal.decreases-loop-before
decreases-loop-before l = length l.rest
