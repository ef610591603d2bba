use Rattle.std.proofs.Common.{◌≡◌, ◌≤◌, ◌+◌, ◌*◌, ◌++◌}
use Rattle.std.specs.Vec.Iter.{into_iter_items}
use Rattle.serde_json.specs.Data.{depth, items_depth, members_depth}
use Rattle.serde_json.specs.View.{view, items_view, members_view}
use Rattle.serde_json.specs.Written.{items_have_float, members_have_float}
use Rattle.template_values_model.specs.Val.{items_of}
use Rattle.template_values_core.specs.Shape.{pairs_in}
use Rattle.template_values_json.specs.Json.{values_of, named_values}
use Rattle.template_program_contexts.proofs.whole.+values.Given as goal

abbrev pub decreases-value_from : goal.decreases-value_from
decreases-value_from l = 2 * depth (view l.json)

abbrev pub decreases-values_from : goal.decreases-values_from
decreases-values_from l = 2 * items_depth (items_view l.items.items) + 1

abbrev pub decreases-entries_from : goal.decreases-entries_from
decreases-entries_from l = 2 * members_depth (members_view l.members.entries) + 1

-- the values so far and those of the items that are left are those of all
abbrev pub invariant-values_from-loop-item : goal.invariant-values_from-loop-item
invariant-values_from-loop-item l = record {
  floats : items_have_float (items_view (into_iter_items l.item-iterator)) ≡ items_have_float (items_view l.fn.items.items);
  shallow : items_depth (items_view (into_iter_items l.item-iterator)) ≤ items_depth (items_view l.fn.items.items);
  all : l.values.items ++ items_of (values_of (items_view (into_iter_items l.item-iterator))) ≡ items_of (values_of (items_view l.fn.items.items));
}

-- the entries so far and the members that are left say what all do
abbrev pub invariant-entries_from-loop-name : goal.invariant-entries_from-loop-name
invariant-entries_from-loop-name l = record {
  floats : members_have_float (members_view l.name-iterator) ≡ members_have_float (members_view l.fn.members.entries);
  shallow : members_depth (members_view l.name-iterator) ≤ members_depth (members_view l.fn.members.entries);
  all : pairs_in l.entries.items ++ named_values (members_view l.name-iterator) ≡ named_values (members_view l.fn.members.entries);
}
