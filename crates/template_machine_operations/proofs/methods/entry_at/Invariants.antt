use Rattle.std.proofs.Common.{◌≡◌, drop}
use Rattle.template_values_model.specs.Lookup.{entry_at}
use Rattle.template_values_core.specs.Maps.{pairs_of}
use Rattle.template_values_core.specs.Shape.{pairs_in}
use Rattle.template_machine_operations.proofs.methods.entry_at.Given as goal

-- the entries so far have nothing under the text
abbrev pub invariant-loop-entry : goal.invariant-loop-entry
invariant-loop-entry l =
    entry_at l.name (pairs_of (pairs_in (drop l.entry-index l.entries))) ≡ entry_at l.name (pairs_of (pairs_in l.entries))
