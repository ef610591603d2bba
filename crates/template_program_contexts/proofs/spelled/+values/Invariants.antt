use Rattle.std.proofs.Common.{◌≡◌, ◌≤◌, ◌+◌, ◌*◌, ◌++◌, drop}
use Rattle.json.specs.Tree.{depth, items_depth, members_depth}
use Rattle.json.specs.Value.{items_view, members_view, value_view}
use Rattle.template_values_core.specs.Shape.{pairs_in}
use Rattle.template_values_json.proofs.ContextSteps.{pairs_left, values_left}
use Rattle.template_program_contexts.proofs.spelled.+values.Given as goal

abbrev pub decreases-value_from : goal.decreases-value_from
decreases-value_from l = 2 * depth (value_view l.json.now)

abbrev pub decreases-values_from : goal.decreases-values_from
decreases-values_from l = 2 * items_depth (items_view l.items.now) + 1

abbrev pub decreases-entries_from : goal.decreases-entries_from
decreases-entries_from l = 2 * members_depth (members_view l.members.now) + 1

-- the values so far and those of the items that are left are those of all
abbrev pub invariant-values_from-loop-item : goal.invariant-values_from-loop-item
invariant-values_from-loop-item l = record {
  shallow : items_depth (items_view (drop l.item-index l.items)) ≤ items_depth (items_view l.items);
  all : l.values.items ++ values_left (drop l.item-index l.items) ≡ values_left l.items;
}

-- the entries so far and those of the members that are left are those of all
abbrev pub invariant-entries_from-loop-member : goal.invariant-entries_from-loop-member
invariant-entries_from-loop-member l = record {
  shallow : members_depth (members_view (drop l.member-index l.members)) ≤ members_depth (members_view l.members);
  all : pairs_in l.entries.items ++ pairs_left (drop l.member-index l.members) ≡ pairs_left l.members;
}
