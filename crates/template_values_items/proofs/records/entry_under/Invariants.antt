use Rattle.std.proofs.Common.{◌≡◌, drop}
use Rattle.template_values_core.specs.Maps.{pairs_of, entry_under}
use Rattle.template_values_core.specs.Shape.{pairs_in}
use Rattle.template_values_items.proofs.records.entry_under.Given as goal

-- the entries so far have nothing under the key
abbrev pub invariant-loop-entry : goal.invariant-loop-entry
invariant-loop-entry l =
    entry_under l.key (pairs_of (pairs_in (drop l.entry-index l.entries))) ≡ entry_under l.key (pairs_of (pairs_in l.entries))
