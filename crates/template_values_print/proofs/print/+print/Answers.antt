use Rattle.std.proofs.Common.{arith, ◌+◌}
use Rattle.template_values_forms.specs.Printed.{inner_text}
use Rattle.template_values_print.proofs.PrintLemmas.{comma_is_text, inner_text-below, pairs_text-next, vals_text-next}
use Rattle.template_values_print.proofs.PieceLemmas.{Writes-then}
use Rattle.template_values_print.proofs.print.+print.Goals as goal

pub print_inner-returns : goal.print_inner-returns
print_inner-returns g t c = rw (inner_text-below (g.R.Records.known c.args.inside.records.now) c.args.inside.left c.args.value.now c.if-inside-eq0.false) c.print_nested.ensures

pub print_namespace-returns-in-Some : goal.print_namespace-returns-in-Some
print_namespace-returns-in-Some g t c = rw (← c.in-Some.ensures) c.print_map.ensures

pub print_nested-returns-in-List : goal.print_nested-returns-in-List
print_nested-returns-in-List g t c = rw c.in-List.ensures c.print_list.ensures

pub print_nested-returns-in-Tuple : goal.print_nested-returns-in-Tuple
print_nested-returns-in-Tuple g t c = rw c.in-Tuple.ensures (rw c.tuple_end.ensures at c.print_list-in-Tuple.ensures)

pub print_nested-returns-in-Map : goal.print_nested-returns-in-Map
print_nested-returns-in-Map g t c = rw c.in-Map.ensures c.print_map.ensures

pub print_nested-returns-in-KeywordMap : goal.print_nested-returns-in-KeywordMap
print_nested-returns-in-KeywordMap g t c = rw c.in-KeywordMap.ensures c.print_map-in-KeywordMap.ensures

pub print_entries-loop-entry-preserved : goal.print_entries-loop-entry-preserved
print_entries-loop-entry-preserved g t c = record {
  text = comma_is_text;
  rest = λ res a w. c.loop-entry.invariant.rest res a (rw (pairs_text-next c.loop-entry.before.now (inner_text (g.R.Records.known c.args.inside.records.now) c.args.inside.left) c.args.entries.now c.loop-entry.entry-index (c.loop-entry.entry-index + 1) c.entry-item.result (omega arith) (omega arith) c.entry-item.is) (Writes-then c.args.inside.markup _ _ a _ _ res c.in_ok-print_entry.ensures w));
}

pub print_items-loop-item-preserved : goal.print_items-loop-item-preserved
print_items-loop-item-preserved g t c = record {
  text = comma_is_text;
  rest = λ res a w. c.loop-item.invariant.rest res a (rw (vals_text-next c.loop-item.before.now (inner_text (g.R.Records.known c.args.inside.records.now) c.args.inside.left) c.args.items.now c.loop-item.item-index (c.loop-item.item-index + 1) c.item-item.result (omega arith) (omega arith) c.item-item.is) (Writes-then c.args.inside.markup _ _ a _ _ res c.in_ok-print_item.ensures w));
}
