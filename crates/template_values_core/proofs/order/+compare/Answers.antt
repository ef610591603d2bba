use Rattle.std.proofs.Common.{◌∙◌, sym, ap, arith}
use Rattle.std.specs.Ordering.{nat_cmp}
use Rattle.std.specs.String.{string_bytes}
use Rattle.std.specs.Cmp.Lexicographic.{slice_cmp}
use Rattle.template_values_core.specs.Order.{key_cmp, val_cmp}
use Rattle.template_values_core.specs.Shape.{repr_view}
use Rattle.template_values_core.proofs.Deep.{items_deep-at, entries_deep-at, items_stop, items_more, entries_stop, entries_stop_behind, entries_more, items_go_on, entries_go_on, items_end_together, entries_end_together, items_end_first, entries_end_first}
use Rattle.template_values_core.proofs.OrderLemmas.{signed, numbers_by_size, texts_by_bytes, in_turn}
use Rattle.template_values_core.proofs.order.+compare.Goals as goal

pub compare_items-compare-order-requires : goal.compare_items-compare-order-requires
compare_items-compare-order-requires t c =
    (omega (arith, items_deep-at c.args.a.now c.loop-i.i c.index-a-i.result (omega arith) c.index-a-i.is, c.decreases), tt)

pub compare_entries-compare-keys-requires : goal.compare_entries-compare-keys-requires
compare_entries-compare-keys-requires t c =
    (omega (arith, entries_deep-at c.args.a.now c.loop-i.i c.index-a-i.result (omega arith) c.index-a-i.is, c.decreases), tt)

pub compare_entries-compare-values-requires : goal.compare_entries-compare-values-requires
compare_entries-compare-values-requires t c =
    (omega (arith, entries_deep-at c.args.a.now c.loop-i.i c.index-a-i.result (omega arith) c.index-a-i.is, c.decreases), tt)

pub compare_items-returns-then-a-b : goal.compare_items-returns-then-a-b
compare_items-returns-then-a-b t c =
    sym (c.loop-i.invariant.rest ∙ items_end_first c.args.a.now c.args.b.now c.loop-i.i (omega arith) (omega arith))

pub compare_entries-returns-then-a-b : goal.compare_entries-returns-then-a-b
compare_entries-returns-then-a-b t c =
    sym (c.loop-i.invariant.rest ∙ entries_end_first c.args.a.now c.args.b.now c.loop-i.i (omega arith) (omega arith))

pub compare-returns-in-Int-Int : goal.compare-returns-in-Int-Int
compare-returns-in-Int-Int t c =
    let left = sym (ap repr_view c.in-Int-Int.is-0) ∙ c.a.view_is in
    let right = sym (ap repr_view c.in-Int-Int.is-1) ∙ c.b.view_is in
    c.cmp.ensures ∙ numbers_by_size c.in-Int-Int.a c.in-Int-Int.b ∙ (λ i. val_cmp (left i) (right i))

pub compare-returns-in-Text-Text : goal.compare-returns-in-Text-Text
compare-returns-in-Text-Text t c =
    let left = sym (ap repr_view c.in-Text-Text.is-0) ∙ c.a.view_is in
    let right = sym (ap repr_view c.in-Text-Text.is-1) ∙ c.b.view_is in
    let first = c.as_bytes.ensures.value ∙ ap string_bytes c.as_ref.ensures in
    let second = c.as_bytes-in-Text-Text.ensures.value ∙ ap string_bytes c.as_ref-in-Text-Text.ensures in
    c.cmp-in-Text-Text.ensures ∙ (λ i. slice_cmp nat_cmp (first i) (second i)) ∙ texts_by_bytes (string_bytes c.in-Text-Text.a.value) (string_bytes c.in-Text-Text.b.value) ∙ (λ i. val_cmp (left i) (right i))

pub compare-returns-in_default : goal.compare-returns-in_default
compare-returns-in_default t c =
    let left = sym c.parts_of.ensures.0 in
    let right = sym c.parts_of-in_default.ensures.0 in
    c.compare_parts.ensures ∙ (λ i. key_cmp (left i) (right i))

pub compare-compare_parts-requires : goal.compare-compare_parts-requires
compare-compare_parts-requires t c = (omega (arith, c.parts_of.ensures.1, c.parts_of.ensures.2, c.decreases), tt)

pub compare_parts-compare_items-requires : goal.compare_parts-compare_items-requires
compare_parts-compare_items-requires t c = (omega (arith, c.decreases), tt)

pub compare_parts-compare_entries-requires : goal.compare_parts-compare_entries-requires
compare_parts-compare_entries-requires t c = (omega (arith, c.decreases), tt)

pub compare_parts-returns : goal.compare_parts-returns
compare_parts-returns t c =
    let rank = c.cmp.ensures ∙ sym (signed c.args.a.rank c.args.b.rank) in
    let second = c.cmp-4.ensures ∙ sym (signed c.args.a.second c.args.b.second) in
    in_turn c.then-5.result rank c.cmp-2.ensures c.cmp-3.ensures second c.compare_items.ensures c.compare_entries.ensures c.then.ensures c.then-2.ensures
    c.then-3.ensures c.then-4.ensures c.then-5.ensures

pub compare_items-returns-then-b-i : goal.compare_items-returns-then-b-i
compare_items-returns-then-b-i t c =
    sym (c.loop-i.invariant.rest ∙ items_go_on c.args.a.now c.args.b.now c.loop-i.i c.index-a-i.result (omega arith) c.index-a-i.is c.if-b-i.true)

pub compare_entries-returns-then-b-i : goal.compare_entries-returns-then-b-i
compare_entries-returns-then-b-i t c =
    sym (c.loop-i.invariant.rest ∙ entries_go_on c.args.a.now c.args.b.now c.loop-i.i c.index-a-i.result (omega arith) c.index-a-i.is c.if-b-i.true)

pub compare_items-returns-else-a-b : goal.compare_items-returns-else-a-b
compare_items-returns-else-a-b t c =
    sym (c.loop-i.invariant.rest ∙ items_end_together c.args.a.now c.args.b.now c.loop-i.i (omega arith) (omega arith))

pub compare_entries-returns-else-a-b : goal.compare_entries-returns-else-a-b
compare_entries-returns-else-a-b t c =
    sym (c.loop-i.invariant.rest ∙ entries_end_together c.args.a.now c.args.b.now c.loop-i.i (omega arith) (omega arith))

pub compare_items-returns-then-not-is_eq : goal.compare_items-returns-then-not-is_eq
compare_items-returns-then-not-is_eq t c =
    sym (c.loop-i.invariant.rest ∙ items_stop c.args.a.now c.args.b.now c.loop-i.i c.index-a-i.result c.index-b-i.result c.compare-order.result
    (omega arith) (omega arith) c.index-a-i.is c.index-b-i.is c.compare-order.ensures (sym c.is_eq.ensures ∙ c.if-not-is_eq.true))

pub compare_items-loop-i-preserved : goal.compare_items-loop-i-preserved
compare_items-loop-i-preserved t c = record {
  within = omega arith;
  rest = c.loop-i.invariant.rest ∙ items_more c.args.a.now c.args.b.now c.loop-i.i c.index-a-i.result c.index-b-i.result c.compare-order.result
      (omega arith) (omega arith) c.index-a-i.is c.index-b-i.is c.compare-order.ensures (sym c.is_eq.ensures ∙ c.if-not-is_eq.false);
}

pub compare_entries-returns-then-not-is_eq : goal.compare_entries-returns-then-not-is_eq
compare_entries-returns-then-not-is_eq t c =
    sym (c.loop-i.invariant.rest ∙ entries_stop c.args.a.now c.args.b.now c.loop-i.i c.index-a-i.result c.index-b-i.result c.compare-keys.result
    (omega arith) (omega arith) c.index-a-i.is c.index-b-i.is c.compare-keys.ensures (sym c.is_eq.ensures ∙ c.if-not-is_eq.true))

pub compare_entries-returns-then-not-is_eq-2 : goal.compare_entries-returns-then-not-is_eq-2
compare_entries-returns-then-not-is_eq-2 t c =
    sym (c.loop-i.invariant.rest ∙ entries_stop_behind c.args.a.now c.args.b.now c.loop-i.i c.index-a-i.result c.index-b-i.result
    c.compare-keys.result c.compare-values.result (omega arith) (omega arith) c.index-a-i.is c.index-b-i.is
    c.compare-keys.ensures (sym c.is_eq.ensures ∙ c.if-not-is_eq.false) c.compare-values.ensures (sym c.is_eq-in-loop-i.ensures ∙ c.if-not-is_eq-2.true))

pub compare_entries-loop-i-preserved : goal.compare_entries-loop-i-preserved
compare_entries-loop-i-preserved t c = record {
  within = omega arith;
  rest = c.loop-i.invariant.rest ∙ entries_more c.args.a.now c.args.b.now c.loop-i.i c.index-a-i.result c.index-b-i.result
      c.compare-keys.result c.compare-values.result (omega arith) (omega arith) c.index-a-i.is c.index-b-i.is
      c.compare-keys.ensures (sym c.is_eq.ensures ∙ c.if-not-is_eq.false) c.compare-values.ensures (sym c.is_eq-in-loop-i.ensures ∙ c.if-not-is_eq-2.false);
}
