use Rattle.std.proofs.Common.{◌≡◌, ◌++◌, IsUtf8, length, string_bytes}
use Rattle.template_builtins_layout.specs.References.{unescaped, unescaped_from}
use Rattle.template_builtins_layout.proofs.references.unescaped.Given as goal

-- what is made of the rest stands behind what is made
abbrev pub invariant-loop-part : goal.invariant-loop-part
invariant-loop-part l = IsUtf8 l.rest × (string_bytes l.out ++ unescaped_from l.behind l.rest ≡ unescaped l.text)

abbrev pub decreases-loop-part : goal.decreases-loop-part
decreases-loop-part l = length l.rest
