use Rattle.std.proofs.Common.{◌≡◌, ◌+◌, ◌*◌, ◌++◌, drop}
use Rattle.template_values_model.specs.Val.{vals_of}
use Rattle.template_values_core.specs.Maps.{pairs_of}
use Rattle.template_values_core.specs.Shape.{pairs_in}
use Rattle.template_values_forms.specs.Answers.{mapped}
use Rattle.template_values_forms.specs.Frozen.{frozen_pairs, frozen_vals, inner_frozen}
use Rattle.template_values_forms.proofs.freezing.+freeze.Given as goal

abbrev pub decreases-freeze_inner : goal.decreases-freeze_inner
decreases-freeze_inner g l = 8 * l.left

abbrev pub decreases-freeze_nested : goal.decreases-freeze_nested
decreases-freeze_nested g l = 8 * l.left + 7

abbrev pub decreases-freeze_namespace : goal.decreases-freeze_namespace
decreases-freeze_namespace g l = 8 * l.left + 6

abbrev pub decreases-freeze_map : goal.decreases-freeze_map
decreases-freeze_map g l = 8 * l.left + 5

abbrev pub decreases-freeze_items : goal.decreases-freeze_items
decreases-freeze_items g l = 8 * l.left + 4

abbrev pub decreases-freeze_entries : goal.decreases-freeze_entries
decreases-freeze_entries g l = 8 * l.left + 4

abbrev pub decreases-freeze_entry : goal.decreases-freeze_entry
decreases-freeze_entry g l = 8 * l.left + 3

-- those so far and those of the items that are left are those of all
abbrev pub invariant-freeze_items-loop-item : goal.invariant-freeze_items-loop-item
invariant-freeze_items-loop-item g l =
    mapped (λ us. l.values.items ++ us) (frozen_vals (inner_frozen (g.R.Records.known l.records) l.left) (vals_of (drop l.item-index l.items)))
    ≡ frozen_vals (inner_frozen (g.R.Records.known l.records) l.left) (vals_of l.items)

abbrev pub invariant-freeze_entries-loop-entry : goal.invariant-freeze_entries-loop-entry
invariant-freeze_entries-loop-entry g l =
    mapped (λ us. pairs_in l.frozen.items ++ us)
    (frozen_pairs (inner_frozen (g.R.Records.known l.records) l.left) (pairs_of (pairs_in (drop l.entry-index l.entries))))
    ≡ frozen_pairs (inner_frozen (g.R.Records.known l.records) l.left) (pairs_of (pairs_in l.entries))
