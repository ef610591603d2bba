use Rattle.std.proofs.Common.{◌≡◌, ◌++◌, drop}
use Rattle.template_values_core.specs.Maps.{pairs_of}
use Rattle.template_values_core.specs.Shape.{pairs_in}
use Rattle.template_machine_meaning.specs.Functions.{names_in}
use Rattle.template_machine_operations.proofs.namespaces.names_in.Given as goal

-- the names so far and those to come are all names
abbrev pub invariant-loop-entry : goal.invariant-loop-entry
invariant-loop-entry l =
    pairs_in l.names.items ++ names_in (pairs_of (pairs_in (drop l.entry-index l.entries))) ≡ names_in (pairs_of (pairs_in l.entries))
