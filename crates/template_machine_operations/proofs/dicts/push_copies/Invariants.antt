use Rattle.std.proofs.Common.{◌≡◌, ◌++◌, drop}
use Rattle.template_values_core.specs.Shape.{pairs_in}
use Rattle.template_machine_operations.proofs.dicts.push_copies.Given as goal

-- the entries so far and those to come are all entries
abbrev pub invariant-loop-entry : goal.invariant-loop-entry
invariant-loop-entry l =
    pairs_in l.entries.items ++ pairs_in (drop l.entry-index l.more) ≡ pairs_in l.initial.entries.items ++ pairs_in l.more
