use Rattle.std.proofs.Common.{◌+◌, ◌*◌, List, drop, Result, string_bytes, ℕ, false}
use Rattle.serde_json.specs.Written.{items_text, members_text}
use Rattle.template_values_errors.specs.declared.ErrorKind.{ErrorKind}
use Rattle.template_values_model.specs.Val.{vals_of}
use Rattle.template_values_core.specs.Maps.{pairs_of}
use Rattle.template_values_core.specs.Shape.{pairs_in}
use Rattle.template_values_forms.specs.Answers.{mapped}
use Rattle.template_values_forms.specs.Json.{inner_data, items_data, members_data}
use Rattle.template_values_print.specs.Pieces.{Writes}
use Rattle.template_values_print.specs.declared.pieces.Markup.TheVariants.{Plain}
use Rattle.template_values_print.proofs.serial.+json.Given as goal

abbrev pub decreases-json_inner : goal.decreases-json_inner
decreases-json_inner g l = 8 * l.left

abbrev pub decreases-json_nested : goal.decreases-json_nested
decreases-json_nested g l = 8 * l.left + 7

abbrev pub decreases-json_namespace : goal.decreases-json_namespace
decreases-json_namespace g l = 8 * l.left + 6

abbrev pub decreases-json_array : goal.decreases-json_array
decreases-json_array g l = 8 * l.left + 5

abbrev pub decreases-json_object : goal.decreases-json_object
decreases-json_object g l = 8 * l.left + 5

abbrev pub decreases-json_items : goal.decreases-json_items
decreases-json_items g l = 8 * l.left + 4

abbrev pub decreases-json_members : goal.decreases-json_members
decreases-json_members g l = 8 * l.left + 4

abbrev pub decreases-json_item : goal.decreases-json_item
decreases-json_item g l = 8 * l.left + 3

abbrev pub decreases-json_member : goal.decreases-json_member
decreases-json_member g l = 8 * l.left + 3

-- what writes the items that are left from here writes all of them
abbrev pub invariant-json_items-loop-item : goal.invariant-json_items-loop-item
invariant-json_items-loop-item g l =
    (result : Result (Unit {0}) (List ErrorKind)) (after : List ℕ)
    → Writes Plain (string_bytes l.out) (mapped (items_text l.later) (items_data (inner_data (g.R.Records.known l.records) l.left) (vals_of (drop l.item-index l.items)))) result after
    → Writes Plain (string_bytes l.initial.out) (mapped (items_text false) (items_data (inner_data (g.R.Records.known l.records) l.left) (vals_of l.items))) result after

abbrev pub invariant-json_members-loop-entry : goal.invariant-json_members-loop-entry
invariant-json_members-loop-entry g l =
    (result : Result (Unit {0}) (List ErrorKind)) (after : List ℕ)
    → Writes Plain (string_bytes l.out) (mapped (members_text l.later) (members_data (inner_data (g.R.Records.known l.records) l.left) (pairs_of (pairs_in (drop l.entry-index l.entries))))) result after
    → Writes Plain (string_bytes l.initial.out) (mapped (members_text false) (members_data (inner_data (g.R.Records.known l.records) l.left) (pairs_of (pairs_in l.entries)))) result after
