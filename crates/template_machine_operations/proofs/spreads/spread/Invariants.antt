use Rattle.std.proofs.Common.{◌≡◌, drop, Ok}
use Rattle.template_machine_meaning.specs.Spreads.{items_of_each, one_behind}
use Rattle.template_machine_operations.proofs.spreads.spread.Given as goal

-- the items so far and those to come are all items
abbrev pub invariant-loop-value : goal.invariant-loop-value
invariant-loop-value g l =
    one_behind (Ok l.items.items) (items_of_each (g.R.Records.known l.records) (drop l.value-index l.values)) ≡ items_of_each (g.R.Records.known l.records) l.values
