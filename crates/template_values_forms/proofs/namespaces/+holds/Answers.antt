use Rattle.std.proofs.Common.{sym, ◌∙◌, arith}
use Rattle.template_values_core.proofs.Deep.{items_deep-at, items_deep-vals_depth, entries_deep-at, entries_deep-pairs_depth}
use Rattle.template_values_forms.proofs.Staying.{entry_holds, entry_stays, item_holds, item_stays, items_deep, items_hold, items_stay, no_entries_left, no_items_left, pairs_stay}
use Rattle.template_values_forms.proofs.namespaces.+holds.Goals as goal

pub holds_namespace-any_item_holds-requires : goal.holds_namespace-any_item_holds-requires
holds_namespace-any_item_holds-requires t c =
    (omega (arith, items_deep c.args.value.now c.in-Some.items.now (sym c.in-Some.ensures.items), c.decreases), tt)

pub holds_namespace-returns-in-Some-clause-is : goal.holds_namespace-returns-in-Some-clause-is
holds_namespace-returns-in-Some-clause-is t c =
    c.any_item_holds.ensures.is ∙ sym (items_hold c.args.value.now c.in-Some.items.now (sym c.in-Some.ensures.items))

pub holds_namespace-returns-in-Some-clause-stays : goal.holds_namespace-returns-in-Some-clause-stays
holds_namespace-returns-in-Some-clause-stays t c =
    λ free. items_stay c.args.value.now c.in-Some.items.now (sym c.in-Some.ensures.items) (c.any_item_holds.ensures.stay free)

pub holds_namespace-returns-in-Some-entries-clause-stays : goal.holds_namespace-returns-in-Some-entries-clause-stays
holds_namespace-returns-in-Some-entries-clause-stays t c =
    λ free. pairs_stay c.args.value.now c.in-Some-entries.entries.now (sym c.in-Some-entries.ensures.held) c.in-Some-entries.ensures.rising
    (c.any_entry_holds.ensures.stay free)

pub any_item_holds-holds_namespace-requires : goal.any_item_holds-holds_namespace-requires
any_item_holds-holds_namespace-requires t c =
    let deep = items_deep-at c.args.items.now c.loop-item.item-index c.item-item.result (omega arith) c.item-item.is in
    (omega (arith, deep, items_deep-vals_depth c.args.items.now, c.decreases), tt)

pub any_item_holds-loop-item-preserved : goal.any_item_holds-loop-item-preserved
any_item_holds-loop-item-preserved t c = record {
  held = c.loop-item.invariant.held ∙ item_holds c.args.items.now c.loop-item.item-index c.item-item.result (omega arith) c.item-item.is
      (sym c.holds_namespace.ensures.is ∙ c.if-holds_namespace.false);
  stay = λ rest. c.loop-item.invariant.stay (item_stays c.args.items.now c.loop-item.item-index c.item-item.result (omega arith) c.item-item.is
      (c.holds_namespace.ensures.stays c.if-holds_namespace.false) rest);
}

pub any_item_holds-returns-clause-stay : goal.any_item_holds-returns-clause-stay
any_item_holds-returns-clause-stay t c = λ _. c.loop-item.invariant.stay (no_items_left c.args.items.now c.loop-item.item-index (omega arith))

pub any_entry_holds-holds_namespace-requires : goal.any_entry_holds-holds_namespace-requires
any_entry_holds-holds_namespace-requires t c =
    let deep = entries_deep-at c.args.entries.now c.loop-entry.entry-index c.entry-item.result (omega arith) c.entry-item.is in
    (omega (arith, deep, entries_deep-pairs_depth c.args.entries.now, c.decreases), tt)

pub any_entry_holds-holds_namespace-requires-else-holds_namespace : goal.any_entry_holds-holds_namespace-requires-else-holds_namespace
any_entry_holds-holds_namespace-requires-else-holds_namespace t c =
    let deep = entries_deep-at c.args.entries.now c.loop-entry.entry-index c.entry-item.result (omega arith) c.entry-item.is in
    (omega (arith, deep, entries_deep-pairs_depth c.args.entries.now, c.decreases), tt)

pub any_entry_holds-loop-entry-preserved : goal.any_entry_holds-loop-entry-preserved
any_entry_holds-loop-entry-preserved t c = record {
  held = c.loop-entry.invariant.held ∙ entry_holds c.args.entries.now c.loop-entry.entry-index c.entry-item.result (omega arith) c.entry-item.is
      (sym c.holds_namespace.ensures.is ∙ c.if-holds_namespace.false)
      (sym c.holds_namespace-else-holds_namespace.ensures.is ∙ c.if-holds_namespace-2.false);
  stay = λ rest. c.loop-entry.invariant.stay (entry_stays c.args.entries.now c.loop-entry.entry-index c.entry-item.result (omega arith) c.entry-item.is
      (c.holds_namespace.ensures.stays c.if-holds_namespace.false)
      (c.holds_namespace-else-holds_namespace.ensures.stays c.if-holds_namespace-2.false) rest);
}

pub any_entry_holds-returns-clause-stay : goal.any_entry_holds-returns-clause-stay
any_entry_holds-returns-clause-stay t c = λ _. c.loop-entry.invariant.stay (no_entries_left c.args.entries.now c.loop-entry.entry-index (omega arith))
