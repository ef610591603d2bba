use Rattle.std.proofs.Common.{◌≡◌, drop}
use Rattle.template_values_core.specs.Maps.{pairs_of}
use Rattle.template_values_core.specs.Shape.{pairs_in}
use Rattle.template_builtins_arguments.specs.Arguments as read
use Rattle.template_builtins_arguments.specs.Given.{names_of}
use Rattle.template_builtins_arguments.proofs.arguments.are_known.Given as goal

-- each key that was passed is one of the names
abbrev pub invariant-loop-entry : goal.invariant-loop-entry
invariant-loop-entry l = read.are_known (names_of l.names) (pairs_of (pairs_in l.entries)) ≡ read.are_known (names_of l.names) (pairs_of (pairs_in (drop l.entry-index l.entries)))
