use Rattle.std.proofs.Common.{◌+◌, ◌*◌, List, drop, Result, string_bytes, ℕ, false}
use Rattle.template_values_errors.specs.declared.ErrorKind.{ErrorKind}
use Rattle.template_values_model.specs.Val.{vals_of}
use Rattle.template_values_core.specs.Maps.{pairs_of}
use Rattle.template_values_core.specs.Shape.{pairs_in}
use Rattle.template_values_forms.specs.Answers.{mapped}
use Rattle.template_values_forms.specs.Json.{inner_data, items_data, members_data}
use Rattle.template_values_forms.specs.Known.{nothing_known}
use Rattle.template_values_print.specs.Pieces.{Writes}
use Rattle.template_values_print.specs.declared.pieces.Markup.TheVariants.{Plain}
use Rattle.template_builtins_web.specs.Json.{pretty_items, pretty_members}
use Rattle.template_builtins_web.proofs.pretty.+pretty.Given as goal

abbrev pub decreases-pretty_inner : goal.decreases-pretty_inner
decreases-pretty_inner l = 8 * l.left

abbrev pub decreases-pretty_nested : goal.decreases-pretty_nested
decreases-pretty_nested l = 8 * l.left + 7

abbrev pub decreases-pretty_array : goal.decreases-pretty_array
decreases-pretty_array l = 8 * l.left + 5

abbrev pub decreases-pretty_object : goal.decreases-pretty_object
decreases-pretty_object l = 8 * l.left + 5

abbrev pub decreases-pretty_items : goal.decreases-pretty_items
decreases-pretty_items l = 8 * l.left + 4

abbrev pub decreases-pretty_members : goal.decreases-pretty_members
decreases-pretty_members l = 8 * l.left + 4

abbrev pub decreases-pretty_item : goal.decreases-pretty_item
decreases-pretty_item l = 8 * l.left + 3

abbrev pub decreases-pretty_member : goal.decreases-pretty_member
decreases-pretty_member l = 8 * l.left + 3

-- what writes the items that are left from here writes all of them
abbrev pub invariant-pretty_items-loop-item : goal.invariant-pretty_items-loop-item
invariant-pretty_items-loop-item l =
    (result : Result (Unit {0}) (List ErrorKind)) (after : List ℕ)
    → Writes Plain (string_bytes l.out) (mapped (pretty_items l.later l.indent l.level) (items_data (inner_data nothing_known l.left) (vals_of (drop l.item-index l.items)))) result after
    → Writes Plain (string_bytes l.initial.out) (mapped (pretty_items false l.indent l.level) (items_data (inner_data nothing_known l.left) (vals_of l.items))) result after

abbrev pub invariant-pretty_members-loop-entry : goal.invariant-pretty_members-loop-entry
invariant-pretty_members-loop-entry l =
    (result : Result (Unit {0}) (List ErrorKind)) (after : List ℕ)
    → Writes Plain (string_bytes l.out) (mapped (pretty_members l.later l.indent l.level) (members_data (inner_data nothing_known l.left) (pairs_of (pairs_in (drop l.entry-index l.entries))))) result after
    → Writes Plain (string_bytes l.initial.out) (mapped (pretty_members false l.indent l.level) (members_data (inner_data nothing_known l.left) (pairs_of (pairs_in l.entries)))) result after
