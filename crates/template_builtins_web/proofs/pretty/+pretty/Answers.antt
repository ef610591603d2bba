use Rattle.std.proofs.Common.{arith, ◌+◌}
use Rattle.std.proofs.lemmas.Result.{err_from_is_err_and}
use Rattle.template_values_model.specs.Val.{vals_of}
use Rattle.template_values_core.specs.Maps.{pairs_of}
use Rattle.template_values_core.specs.Shape.{pairs_in}
use Rattle.template_values_forms.specs.Json.{inner_data, items_data, members_data}
use Rattle.template_values_forms.specs.Known.{nothing_known}
use Rattle.template_values_print.proofs.JsonLemmas.{inner_data-below}
use Rattle.template_builtins_web.proofs.LaidOut.{pretty_array, pretty_object, items_pretty-next, members_pretty-next}
use Rattle.template_values_print.proofs.PieceLemmas.{Writes-stop, Writes-then}
use Rattle.template_values_print.proofs.PrintLemmas.{pairs_none, vals_none}
use Rattle.template_values_print.specs.declared.pieces.Markup.TheVariants.{Plain}
use Rattle.template_builtins_web.proofs.pretty.+pretty.Goals as goal

pub pretty_inner-returns : goal.pretty_inner-returns
pretty_inner-returns t c = rw (inner_data-below nothing_known c.args.left c.args.value.now c.if-left-eq0.false) c.pretty_nested.ensures

pub pretty_nested-returns-in-List : goal.pretty_nested-returns-in-List
pretty_nested-returns-in-List t c = rw c.in-List.ensures (rw (pretty_array c.args.indent.now c.args.level (items_data (inner_data nothing_known c.args.left) (vals_of c.in-List.items.now))) at c.pretty_array.ensures)

pub pretty_nested-returns-in-Tuple : goal.pretty_nested-returns-in-Tuple
pretty_nested-returns-in-Tuple t c = rw c.in-Tuple.ensures (rw (pretty_array c.args.indent.now c.args.level (items_data (inner_data nothing_known c.args.left) (vals_of c.in-Tuple.items.now))) at c.pretty_array-in-Tuple.ensures)

pub pretty_nested-returns-in-Map : goal.pretty_nested-returns-in-Map
pretty_nested-returns-in-Map t c = rw c.in-Map.ensures (rw (pretty_object c.args.indent.now c.args.level (members_data (inner_data nothing_known c.args.left) (pairs_of (pairs_in c.in-Map.entries.now)))) at c.pretty_object.ensures)

pub pretty_nested-returns-in-KeywordMap : goal.pretty_nested-returns-in-KeywordMap
pretty_nested-returns-in-KeywordMap t c = rw c.in-KeywordMap.ensures (rw (pretty_object c.args.indent.now c.args.level (members_data (inner_data nothing_known c.args.left) (pairs_of (pairs_in c.in-KeywordMap.entries.now)))) at c.pretty_object-in-KeywordMap.ensures)

pub pretty_nested-returns-in-Module : goal.pretty_nested-returns-in-Module
pretty_nested-returns-in-Module t c = rw c.in-Module.ensures (rw (pretty_object c.args.indent.now c.args.level (members_data (inner_data nothing_known c.args.left) (pairs_of (pairs_in c.in-Module.entries.now)))) at c.pretty_object-in-Module.ensures)

pub pretty_items-returns-in_err-pretty_item : goal.pretty_items-returns-in_err-pretty_item
pretty_items-returns-in_err-pretty_item t c =
    let p = err_from_is_err_and c.from_residual.result c.from_residual.ensures.1 in
    rw (p.1, p.2) (c.loop-item.invariant _ _ (rw (items_pretty-next c.loop-item.later c.args.indent.now c.args.level (c.args.level + 1) (inner_data nothing_known c.args.left) c.args.items.now c.loop-item.item-index (c.loop-item.item-index + 1) c.item-item.result (omega arith) (omega arith) (omega arith) c.item-item.is)
    (Writes-stop Plain _ _ _ _ _ c.in_err-pretty_item.ensures)))

pub pretty_items-loop-item-preserved : goal.pretty_items-loop-item-preserved
pretty_items-loop-item-preserved t c = λ res a w.
    c.loop-item.invariant res a (rw (items_pretty-next c.loop-item.later c.args.indent.now c.args.level (c.args.level + 1) (inner_data nothing_known c.args.left) c.args.items.now c.loop-item.item-index (c.loop-item.item-index + 1) c.item-item.result (omega arith) (omega arith) (omega arith) c.item-item.is)
    (Writes-then Plain _ _ a _ _ res c.in_ok-pretty_item.ensures w))

pub pretty_items-returns : goal.pretty_items-returns
pretty_items-returns t c = c.loop-item.invariant _ _ (rw (vals_none c.args.items.now c.loop-item.item-index (omega arith)) c.push_end.ensures)

pub pretty_members-returns-in_err-pretty_member : goal.pretty_members-returns-in_err-pretty_member
pretty_members-returns-in_err-pretty_member t c =
    let p = err_from_is_err_and c.from_residual.result c.from_residual.ensures.1 in
    rw (p.1, p.2) (c.loop-entry.invariant _ _ (rw (members_pretty-next c.loop-entry.later c.args.indent.now c.args.level (c.args.level + 1) (inner_data nothing_known c.args.left) c.args.entries.now c.loop-entry.entry-index (c.loop-entry.entry-index + 1) c.entry-item.result (omega arith) (omega arith) (omega arith) c.entry-item.is)
    (Writes-stop Plain _ _ _ _ _ c.in_err-pretty_member.ensures)))

pub pretty_members-loop-entry-preserved : goal.pretty_members-loop-entry-preserved
pretty_members-loop-entry-preserved t c = λ res a w.
    c.loop-entry.invariant res a (rw (members_pretty-next c.loop-entry.later c.args.indent.now c.args.level (c.args.level + 1) (inner_data nothing_known c.args.left) c.args.entries.now c.loop-entry.entry-index (c.loop-entry.entry-index + 1) c.entry-item.result (omega arith) (omega arith) (omega arith) c.entry-item.is)
    (Writes-then Plain _ _ a _ _ res c.in_ok-pretty_member.ensures w))

pub pretty_members-returns : goal.pretty_members-returns
pretty_members-returns t c = c.loop-entry.invariant _ _ (rw (pairs_none c.args.entries.now c.loop-entry.entry-index (omega arith)) c.push_end.ensures)
