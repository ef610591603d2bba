use Rattle.std.proofs.Common.{arith, ◌+◌}
use Rattle.std.proofs.lemmas.Result.{err_from_is_err_and}
use Rattle.template_values_model.specs.Val.{vals_of}
use Rattle.template_values_core.specs.Maps.{pairs_of}
use Rattle.template_values_core.specs.Shape.{pairs_in}
use Rattle.template_values_forms.specs.Json.{inner_data, items_data, members_data}
use Rattle.template_values_print.proofs.JsonLemmas.{array_text, inner_data-below, object_text, items_data-next, members_data-next}
use Rattle.template_values_print.proofs.PieceLemmas.{Writes-stop, Writes-then}
use Rattle.template_values_print.proofs.PrintLemmas.{pairs_none, vals_none}
use Rattle.template_values_print.specs.declared.pieces.Markup.TheVariants.{Plain}
use Rattle.template_values_print.proofs.serial.+json.Goals as goal

pub json_inner-returns : goal.json_inner-returns
json_inner-returns g t c = rw (inner_data-below (g.R.Records.known c.args.records.now) c.args.left c.args.value.now c.if-left-eq0.false) c.json_nested.ensures

pub json_nested-returns-in-List : goal.json_nested-returns-in-List
json_nested-returns-in-List g t c = rw c.in-List.ensures (rw (array_text (items_data (inner_data (g.R.Records.known c.args.records.now) c.args.left) (vals_of c.in-List.items.now))) at c.json_array.ensures)

pub json_nested-returns-in-Tuple : goal.json_nested-returns-in-Tuple
json_nested-returns-in-Tuple g t c = rw c.in-Tuple.ensures (rw (array_text (items_data (inner_data (g.R.Records.known c.args.records.now) c.args.left) (vals_of c.in-Tuple.items.now))) at c.json_array-in-Tuple.ensures)

pub json_nested-returns-in-Map : goal.json_nested-returns-in-Map
json_nested-returns-in-Map g t c = rw c.in-Map.ensures (rw (object_text (members_data (inner_data (g.R.Records.known c.args.records.now) c.args.left) (pairs_of (pairs_in c.in-Map.entries.now)))) at c.json_object.ensures)

pub json_nested-returns-in-KeywordMap : goal.json_nested-returns-in-KeywordMap
json_nested-returns-in-KeywordMap g t c = rw c.in-KeywordMap.ensures (rw (object_text (members_data (inner_data (g.R.Records.known c.args.records.now) c.args.left) (pairs_of (pairs_in c.in-KeywordMap.entries.now)))) at c.json_object-in-KeywordMap.ensures)

pub json_nested-returns-in-Module : goal.json_nested-returns-in-Module
json_nested-returns-in-Module g t c = rw c.in-Module.ensures (rw (object_text (members_data (inner_data (g.R.Records.known c.args.records.now) c.args.left) (pairs_of (pairs_in c.in-Module.entries.now)))) at c.json_object-in-Module.ensures)

pub json_namespace-returns-in-Some : goal.json_namespace-returns-in-Some
json_namespace-returns-in-Some g t c = rw (← c.in-Some.ensures) (rw (object_text (members_data (inner_data (g.R.Records.known c.args.records.now) c.args.left) (pairs_of (pairs_in c.in-Some.entries.now)))) at c.json_object.ensures)

pub json_items-returns-in_err-json_item : goal.json_items-returns-in_err-json_item
json_items-returns-in_err-json_item g t c =
    let p = err_from_is_err_and c.from_residual.result c.from_residual.ensures.1 in
    rw (p.1, p.2) (c.loop-item.invariant _ _ (rw (items_data-next c.loop-item.later (inner_data (g.R.Records.known c.args.records.now) c.args.left) c.args.items.now c.loop-item.item-index (c.loop-item.item-index + 1) c.item-item.result (omega arith) (omega arith) c.item-item.is)
    (Writes-stop Plain _ _ _ _ _ c.in_err-json_item.ensures)))

pub json_items-loop-item-preserved : goal.json_items-loop-item-preserved
json_items-loop-item-preserved g t c = λ res a w.
    c.loop-item.invariant res a (rw (items_data-next c.loop-item.later (inner_data (g.R.Records.known c.args.records.now) c.args.left) c.args.items.now c.loop-item.item-index (c.loop-item.item-index + 1) c.item-item.result (omega arith) (omega arith) c.item-item.is)
    (Writes-then Plain _ _ a _ _ res c.in_ok-json_item.ensures w))

pub json_items-returns : goal.json_items-returns
json_items-returns g t c = c.loop-item.invariant _ _ (rw (vals_none c.args.items.now c.loop-item.item-index (omega arith)) c.push.ensures)

pub json_members-returns-in_err-json_member : goal.json_members-returns-in_err-json_member
json_members-returns-in_err-json_member g t c =
    let p = err_from_is_err_and c.from_residual.result c.from_residual.ensures.1 in
    rw (p.1, p.2) (c.loop-entry.invariant _ _ (rw (members_data-next c.loop-entry.later (inner_data (g.R.Records.known c.args.records.now) c.args.left) c.args.entries.now c.loop-entry.entry-index (c.loop-entry.entry-index + 1) c.entry-item.result (omega arith) (omega arith) c.entry-item.is)
    (Writes-stop Plain _ _ _ _ _ c.in_err-json_member.ensures)))

pub json_members-loop-entry-preserved : goal.json_members-loop-entry-preserved
json_members-loop-entry-preserved g t c = λ res a w.
    c.loop-entry.invariant res a (rw (members_data-next c.loop-entry.later (inner_data (g.R.Records.known c.args.records.now) c.args.left) c.args.entries.now c.loop-entry.entry-index (c.loop-entry.entry-index + 1) c.entry-item.result (omega arith) (omega arith) c.entry-item.is)
    (Writes-then Plain _ _ a _ _ res c.in_ok-json_member.ensures w))

pub json_members-returns : goal.json_members-returns
json_members-returns g t c = c.loop-entry.invariant _ _ (rw (pairs_none c.args.entries.now c.loop-entry.entry-index (omega arith)) c.push.ensures)
