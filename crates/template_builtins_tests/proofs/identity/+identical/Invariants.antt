use Rattle.std.proofs.Common.{◌≡◌, ◌+◌, ◌*◌, max, drop}
use Rattle.template_values_model.specs.Val.{vals_of}
use Rattle.template_values_core.specs.Depth.{depth}
use Rattle.template_values_core.specs.Maps.{pairs_of}
use Rattle.template_values_core.specs.Parts.{items_deep, entries_deep}
use Rattle.template_values_core.specs.Shape.{pairs_in}
use Rattle.template_builtins_tests.specs.Identity.{identical_items, identical_pairs}
use Rattle.template_builtins_tests.proofs.identity.+identical.Given as goal

abbrev pub decreases-is_identical : goal.decreases-is_identical
decreases-is_identical l = 4 * depth l.value.now + 2

abbrev pub decreases-is_list : goal.decreases-is_list
decreases-is_list l = 4 * items_deep l.items.now + 1

abbrev pub decreases-is_tuple : goal.decreases-is_tuple
decreases-is_tuple l = 4 * items_deep l.items.now + 1

abbrev pub decreases-is_map : goal.decreases-is_map
decreases-is_map l = 4 * entries_deep l.entries.now + 1

abbrev pub decreases-is_keyword_map : goal.decreases-is_keyword_map
decreases-is_keyword_map l = 4 * entries_deep l.entries.now + 1

abbrev pub decreases-is_module : goal.decreases-is_module
decreases-is_module l = 4 * entries_deep l.entries.now + 1

abbrev pub decreases-are_items_identical : goal.decreases-are_items_identical
decreases-are_items_identical l = 4 * items_deep l.items.now

abbrev pub decreases-are_entries_identical : goal.decreases-are_entries_identical
decreases-are_entries_identical l = 4 * entries_deep l.entries.now

abbrev pub decreases-is_entry : goal.decreases-is_entry
decreases-is_entry l = 4 * max (depth l.entry.now.key) (depth l.entry.now.value) + 3

-- the items that were passed are identical
abbrev pub invariant-are_items_identical-loop-i : goal.invariant-are_items_identical-loop-i
invariant-are_items_identical-loop-i l =
    identical_items (vals_of l.items) (vals_of l.others) ≡ identical_items (vals_of (drop l.i l.items)) (vals_of (drop l.i l.others))

abbrev pub invariant-are_entries_identical-loop-i : goal.invariant-are_entries_identical-loop-i
invariant-are_entries_identical-loop-i l =
    identical_pairs (pairs_of (pairs_in l.entries)) (pairs_of (pairs_in l.others))
    ≡ identical_pairs (pairs_of (pairs_in (drop l.i l.entries))) (pairs_of (pairs_in (drop l.i l.others)))
