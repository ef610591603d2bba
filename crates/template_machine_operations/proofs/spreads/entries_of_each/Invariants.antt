use Rattle.std.proofs.Common.{◌≡◌, drop, Ok}
use Rattle.template_values_core.specs.Shape.{pairs_in}
use Rattle.template_machine_meaning.specs.Spreads.{entries_of_each, one_behind}
use Rattle.template_machine_operations.proofs.spreads.entries_of_each.Given as goal

-- the entries so far and those to come are all entries
abbrev pub invariant-loop-map : goal.invariant-loop-map
invariant-loop-map g l =
    one_behind (Ok (pairs_in l.entries.items)) (entries_of_each l.mode (g.R.Records.known l.records) (drop l.map-index l.maps))
    ≡ entries_of_each l.mode (g.R.Records.known l.records) l.maps
