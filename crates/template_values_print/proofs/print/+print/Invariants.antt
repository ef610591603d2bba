use denote.Shadow.{shadow}
use denote.Text.{Utf8}
use Rattle.std.proofs.Common.{◌+◌, ◌*◌, List, [], drop, Result, string_bytes, ℕ}
use Rattle.template_values_errors.specs.declared.ErrorKind.{ErrorKind}
use Rattle.template_values_model.specs.Val.{vals_of}
use Rattle.template_values_core.specs.Maps.{pairs_of}
use Rattle.template_values_core.specs.Shape.{pairs_in}
use Rattle.template_values_print.specs.Pieces.{Writes}
use Rattle.template_values_forms.specs.Printed.{inner_text, pairs_text, vals_text}
use Rattle.template_values_print.proofs.print.+print.Given as goal

abbrev pub decreases-print_inner : goal.decreases-print_inner
decreases-print_inner g l = 8 * l.inside.left

abbrev pub decreases-print_nested : goal.decreases-print_nested
decreases-print_nested g l = 8 * l.inside.left + 7

abbrev pub decreases-print_namespace : goal.decreases-print_namespace
decreases-print_namespace g l = 8 * l.inside.left + 6

abbrev pub decreases-print_list : goal.decreases-print_list
decreases-print_list g l = 8 * l.inside.left + 5

abbrev pub decreases-print_map : goal.decreases-print_map
decreases-print_map g l = 8 * l.inside.left + 5

abbrev pub decreases-print_items : goal.decreases-print_items
decreases-print_items g l = 8 * l.inside.left + 4

abbrev pub decreases-print_entries : goal.decreases-print_entries
decreases-print_entries g l = 8 * l.inside.left + 4

abbrev pub decreases-print_item : goal.decreases-print_item
decreases-print_item g l = 8 * l.inside.left + 3

abbrev pub decreases-print_entry : goal.decreases-print_entry
decreases-print_entry g l = 8 * l.inside.left + 3

-- what writes the items that are left from here writes all of them
abbrev pub invariant-print_items-loop-item : goal.invariant-print_items-loop-item
invariant-print_items-loop-item g l = record {
  text : shadow (Utf8 l.before);
  rest : (result : Result (Unit {0}) (List ErrorKind)) (after : List ℕ)
      → Writes l.inside.markup (string_bytes l.out) (vals_text l.before (inner_text (g.R.Records.known l.inside.records.now) l.inside.left) (vals_of (drop l.item-index l.items))) result after
      → Writes l.inside.markup (string_bytes l.initial.out) (vals_text [] (inner_text (g.R.Records.known l.inside.records.now) l.inside.left) (vals_of l.items)) result after;
}

abbrev pub invariant-print_entries-loop-entry : goal.invariant-print_entries-loop-entry
invariant-print_entries-loop-entry g l = record {
  text : shadow (Utf8 l.before);
  rest : (result : Result (Unit {0}) (List ErrorKind)) (after : List ℕ)
      → Writes l.inside.markup (string_bytes l.out) (pairs_text l.before (inner_text (g.R.Records.known l.inside.records.now) l.inside.left) (pairs_of (pairs_in (drop l.entry-index l.entries)))) result after
      → Writes l.inside.markup (string_bytes l.initial.out) (pairs_text [] (inner_text (g.R.Records.known l.inside.records.now) l.inside.left) (pairs_of (pairs_in l.entries))) result after;
}
