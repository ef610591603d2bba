use Rattle.std.proofs.Common.{length, string_bytes, IsUtf8}
use Rattle.template_callables.specs.Views.{seen_in}
use Rattle.template_builtins_formats.proofs.Going.{Goes}
use Rattle.template_builtins_formats.proofs.formats.formatted.Given as goal

-- what is made of the rest stands behind what is made
abbrev pub invariant-pieces : goal.invariant-pieces
invariant-pieces l = IsUtf8 l.rest × Goes (seen_in l.view) (string_bytes l.out) l.rest l.given l.fn.text l.fn.arguments

abbrev pub decreases-pieces : goal.decreases-pieces
decreases-pieces l = length l.rest
