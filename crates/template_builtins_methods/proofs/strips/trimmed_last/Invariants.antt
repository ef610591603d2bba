use Rattle.std.proofs.Common.{◌≡◌, length, chars, IsUtf8}
use Rattle.template_builtins_texts.specs.Trims.{trimmed_last}
use Rattle.template_builtins_methods.proofs.strips.trimmed_last.Given as goal

-- what is left makes what the whole does
abbrev pub invariant-loop-before : goal.invariant-loop-before
invariant-loop-before l = IsUtf8 l.rest × (trimmed_last l.set l.rest ≡ trimmed_last l.set l.fn.text)

abbrev pub decreases-loop-before : goal.decreases-loop-before
decreases-loop-before l = length (chars l.rest)
