use Rattle.std.proofs.Common.{◌≡◌, ◌++◌, drop}
use Rattle.template_values_core.specs.Maps.{pairs_of}
use Rattle.template_values_core.specs.Shape.{pairs_in}
use Rattle.template_values_operators.specs.Iterated.{keys_in}
use Rattle.template_values_items.proofs.items.keys.Given as goal

-- the keys so far and those to come are all keys
abbrev pub invariant-loop-entry : goal.invariant-loop-entry
invariant-loop-entry l =
    l.keys.items ++ keys_in (pairs_of (pairs_in (drop l.entry-index l.entries))) ≡ keys_in (pairs_of (pairs_in l.entries))
