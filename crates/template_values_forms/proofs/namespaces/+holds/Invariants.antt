use Rattle.std.proofs.Common.{◌≡◌, ◌+◌, ◌*◌, drop}
use Rattle.template_values_model.specs.Val.{vals_of}
use Rattle.template_values_core.specs.Depth.{depth, vals_depth, pairs_depth}
use Rattle.template_values_core.specs.Maps.{pairs_of}
use Rattle.template_values_core.specs.Shape.{pairs_in}
use Rattle.template_values_forms.specs.Frozen.{pairs_hold_namespace, vals_hold_namespace}
use Rattle.template_values_forms.specs.Given.{PairsStay, ValsStay}
use Rattle.template_values_forms.proofs.namespaces.+holds.Given as goal

abbrev pub decreases-holds_namespace : goal.decreases-holds_namespace
decreases-holds_namespace l = 2 * depth l.value.now

abbrev pub decreases-any_item_holds : goal.decreases-any_item_holds
decreases-any_item_holds l = 2 * vals_depth (vals_of l.items.now) + 1

abbrev pub decreases-any_entry_holds : goal.decreases-any_entry_holds
decreases-any_entry_holds l = 2 * pairs_depth (pairs_of (pairs_in l.entries.now)) + 1

-- those that were passed hold none
abbrev pub invariant-any_item_holds-loop-item : goal.invariant-any_item_holds-loop-item
invariant-any_item_holds-loop-item l = record {
  held : vals_hold_namespace (vals_of l.items) ≡ vals_hold_namespace (vals_of (drop l.item-index l.items));
  stay : ValsStay (drop l.item-index l.items) → ValsStay l.items;
}

abbrev pub invariant-any_entry_holds-loop-entry : goal.invariant-any_entry_holds-loop-entry
invariant-any_entry_holds-loop-entry l = record {
  held : pairs_hold_namespace (pairs_of (pairs_in l.entries)) ≡ pairs_hold_namespace (pairs_of (pairs_in (drop l.entry-index l.entries)));
  stay : PairsStay (pairs_in (drop l.entry-index l.entries)) → PairsStay (pairs_in l.entries);
}
