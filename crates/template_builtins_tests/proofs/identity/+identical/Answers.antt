use Rattle.std.proofs.Common.{◌∙◌, sym, ap, arith}
use Rattle.template_values_core.specs.Depth.{depth}
use Rattle.template_values_core.proofs.Deep.{items_deep-at, entries_deep-at, items_deep-vals_depth, entries_deep-pairs_depth}
use Rattle.template_builtins_tests.proofs.Same.{items_stop, items_more, items_end, items_differ, entries_stop, entries_more, entries_end, entries_differ}
use Rattle.template_builtins_tests.proofs.identity.+identical.Goals as goal

pub is_identical-is_list-requires : goal.is_identical-is_list-requires
is_identical-is_list-requires t c =
    (omega (arith, ap depth c.in-List.ensures, items_deep-vals_depth c.in-List.items.now, c.decreases), tt)

pub is_identical-is_tuple-requires : goal.is_identical-is_tuple-requires
is_identical-is_tuple-requires t c =
    (omega (arith, ap depth c.in-Tuple.ensures, items_deep-vals_depth c.in-Tuple.items.now, c.decreases), tt)

pub is_identical-is_map-requires : goal.is_identical-is_map-requires
is_identical-is_map-requires t c =
    (omega (arith, ap depth c.in-Map.ensures, entries_deep-pairs_depth c.in-Map.entries.now, c.decreases), tt)

pub is_identical-is_keyword_map-requires : goal.is_identical-is_keyword_map-requires
is_identical-is_keyword_map-requires t c =
    (omega (arith, ap depth c.in-KeywordMap.ensures, entries_deep-pairs_depth c.in-KeywordMap.entries.now, c.decreases), tt)

pub is_identical-is_module-requires : goal.is_identical-is_module-requires
is_identical-is_module-requires t c =
    (omega (arith, ap depth c.in-Module.ensures, entries_deep-pairs_depth c.in-Module.entries.now, c.decreases), tt)

pub are_items_identical-returns-then-items-others : goal.are_items_identical-returns-then-items-others
are_items_identical-returns-then-items-others t c = sym (items_differ c.args.items.now c.args.others.now c.if-items-others.true)

pub are_entries_identical-returns-then-entries-others : goal.are_entries_identical-returns-then-entries-others
are_entries_identical-returns-then-entries-others t c = sym (entries_differ c.args.entries.now c.args.others.now c.if-entries-others.true)

pub are_items_identical-is_identical-requires : goal.are_items_identical-is_identical-requires
are_items_identical-is_identical-requires t c =
    (omega (arith, items_deep-at c.args.items.now c.loop-i.i c.index-items-i.result (omega arith) c.index-items-i.is, c.decreases), tt)

pub are_entries_identical-is_entry-requires : goal.are_entries_identical-is_entry-requires
are_entries_identical-is_entry-requires t c =
    (omega (arith, entries_deep-at c.args.entries.now c.loop-i.i c.index-entries-i.result (omega arith) c.index-entries-i.is, c.decreases), tt)

pub are_items_identical-returns-then-not-is_identical : goal.are_items_identical-returns-then-not-is_identical
are_items_identical-returns-then-not-is_identical t c =
    sym (c.loop-i.invariant ∙ items_stop c.args.items.now c.args.others.now c.loop-i.i c.index-items-i.result c.index-others-i.result
    c.is_identical.result (omega arith) (omega arith) c.index-items-i.is c.index-others-i.is c.is_identical.ensures c.if-not-is_identical.true)

pub are_entries_identical-returns-then-not-is_entry : goal.are_entries_identical-returns-then-not-is_entry
are_entries_identical-returns-then-not-is_entry t c =
    sym (c.loop-i.invariant ∙ entries_stop c.args.entries.now c.args.others.now c.loop-i.i c.index-entries-i.result c.index-others-i.result
    c.is_entry.result (omega arith) (omega arith) c.index-entries-i.is c.index-others-i.is c.is_entry.ensures c.if-not-is_entry.true)

pub are_items_identical-loop-i-preserved : goal.are_items_identical-loop-i-preserved
are_items_identical-loop-i-preserved t c =
    c.loop-i.invariant ∙ items_more c.args.items.now c.args.others.now c.loop-i.i c.index-items-i.result c.index-others-i.result
    c.is_identical.result (omega arith) (omega arith) c.index-items-i.is c.index-others-i.is c.is_identical.ensures c.if-not-is_identical.false

pub are_entries_identical-loop-i-preserved : goal.are_entries_identical-loop-i-preserved
are_entries_identical-loop-i-preserved t c =
    c.loop-i.invariant ∙ entries_more c.args.entries.now c.args.others.now c.loop-i.i c.index-entries-i.result c.index-others-i.result
    c.is_entry.result (omega arith) (omega arith) c.index-entries-i.is c.index-others-i.is c.is_entry.ensures c.if-not-is_entry.false

pub are_items_identical-returns : goal.are_items_identical-returns
are_items_identical-returns t c =
    sym (c.loop-i.invariant ∙ items_end c.args.items.now c.args.others.now c.loop-i.i (omega arith) (omega arith))

pub are_entries_identical-returns : goal.are_entries_identical-returns
are_entries_identical-returns t c =
    sym (c.loop-i.invariant ∙ entries_end c.args.entries.now c.args.others.now c.loop-i.i (omega arith) (omega arith))
