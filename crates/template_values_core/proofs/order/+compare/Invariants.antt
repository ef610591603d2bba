use Rattle.std.proofs.Common.{◌≡◌, ◌+◌, ◌*◌, ◌≤◌, max, length, drop}
use Rattle.template_values_model.specs.Val.{vals_of}
use Rattle.template_values_core.specs.Depth.{depth}
use Rattle.template_values_core.specs.Maps.{pairs_of}
use Rattle.template_values_core.specs.Order.{key_cmp, vals_key, pairs_key}
use Rattle.template_values_core.specs.Parts.{items_deep, entries_deep}
use Rattle.template_values_core.specs.Shape.{pairs_in}
use Rattle.template_values_core.proofs.order.+compare.Given as goal

abbrev pub decreases-compare : goal.decreases-compare
decreases-compare l = 3 * depth l.a.now + 2

abbrev pub decreases-compare_parts : goal.decreases-compare_parts
decreases-compare_parts l = 3 * max (items_deep l.a.items.now) (entries_deep l.a.entries.now) + 1

abbrev pub decreases-compare_items : goal.decreases-compare_items
decreases-compare_items l = 3 * items_deep l.a.now

abbrev pub decreases-compare_entries : goal.decreases-compare_entries
decreases-compare_entries l = 3 * entries_deep l.a.now

-- the items that were passed are equal
abbrev pub invariant-compare_items-loop-i : goal.invariant-compare_items-loop-i
invariant-compare_items-loop-i l = record {
  within : l.i ≤ length l.b;
  rest : key_cmp (vals_key (vals_of l.a)) (vals_key (vals_of l.b))
      ≡ key_cmp (vals_key (vals_of (drop l.i l.a))) (vals_key (vals_of (drop l.i l.b)));
}

abbrev pub invariant-compare_entries-loop-i : goal.invariant-compare_entries-loop-i
invariant-compare_entries-loop-i l = record {
  within : l.i ≤ length l.b;
  rest : key_cmp (pairs_key (pairs_of (pairs_in l.a))) (pairs_key (pairs_of (pairs_in l.b)))
      ≡ key_cmp (pairs_key (pairs_of (pairs_in (drop l.i l.a)))) (pairs_key (pairs_of (pairs_in (drop l.i l.b))));
}
