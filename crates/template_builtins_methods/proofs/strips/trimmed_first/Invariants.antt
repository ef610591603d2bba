use Rattle.std.proofs.Common.{◌≡◌, length, chars, IsUtf8}
use Rattle.template_builtins_texts.specs.Trims.{trimmed_first}
use Rattle.template_builtins_methods.proofs.strips.trimmed_first.Given as goal

-- what is left makes what the whole does
abbrev pub invariant-loop-character : goal.invariant-loop-character
invariant-loop-character l = IsUtf8 l.rest × (trimmed_first l.set l.rest ≡ trimmed_first l.set l.fn.text)

abbrev pub decreases-loop-character : goal.decreases-loop-character
decreases-loop-character l = length (chars l.rest)
