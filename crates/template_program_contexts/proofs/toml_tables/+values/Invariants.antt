use Rattle.std.proofs.Common.{◌≡◌, ◌<◌, ◌≤◌, ◌+◌, ◌*◌, ◌++◌}
use Rattle.std.specs.Vec.Iter.{into_iter_items}
use Rattle.toml.specs.Data.{depth, items_depth, members_depth}
use Rattle.toml.specs.View.{view, items_view, members_view}
use Rattle.template_values_model.specs.Val.{items_of, vals_of}
use Rattle.template_values_core.specs.Depth.{vals_depth}
use Rattle.template_values_core.specs.Shape.{pairs_in}
use Rattle.template_values_json.specs.Entries.{ArePlain}
use Rattle.template_program_contexts.specs.Toml.{items_fault, members_fault, toml_pairs, toml_values}
use Rattle.template_program_contexts.proofs.toml_tables.+values.Given as goal

abbrev pub decreases-value_from : goal.decreases-value_from
decreases-value_from l = 3 * depth (view l.toml)

abbrev pub decreases-part_from : goal.decreases-part_from
decreases-part_from l = 3 * depth (view l.toml) + 1

abbrev pub decreases-values_from : goal.decreases-values_from
decreases-values_from l = 3 * items_depth (items_view l.items.items) + 2

abbrev pub decreases-entries_from : goal.decreases-entries_from
decreases-entries_from l = 3 * members_depth (members_view l.members.entries) + 2

-- the values so far and those of the items that are left are those of all, and what is left is refused as all is
abbrev pub invariant-values_from-loop-item : goal.invariant-values_from-loop-item
invariant-values_from-loop-item l = record {
  fault : items_fault (items_view (into_iter_items l.item-iterator)) ≡ items_fault (items_view l.fn.items.items);
  within : items_depth (items_view (into_iter_items l.item-iterator)) ≤ items_depth (items_view l.fn.items.items);
  all : l.values.items ++ items_of (toml_values (items_view (into_iter_items l.item-iterator))) ≡ items_of (toml_values (items_view l.fn.items.items));
  shallow : vals_depth (vals_of l.values.items) < 500;
}

-- the entries so far and those of the members that are left are those of all, and what is left is refused as all is
abbrev pub invariant-entries_from-loop-name : goal.invariant-entries_from-loop-name
invariant-entries_from-loop-name l = record {
  fault : members_fault (members_view l.name-iterator) ≡ members_fault (members_view l.fn.members.entries);
  within : members_depth (members_view l.name-iterator) ≤ members_depth (members_view l.fn.members.entries);
  all : pairs_in l.entries.items ++ toml_pairs (members_view l.name-iterator) ≡ toml_pairs (members_view l.fn.members.entries);
  plain : ArePlain l.entries.items;
}
