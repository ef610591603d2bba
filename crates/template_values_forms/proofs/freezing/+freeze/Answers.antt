use Rattle.std.proofs.Common.{refl, arith, string_bytes}
use Rattle.template_values_model.specs.Val.{vals_of}
use Rattle.template_values_core.specs.Maps.{pairs_of}
use Rattle.template_values_core.specs.Shape.{pairs_in}
use Rattle.template_values_forms.specs.Frozen.{frozen_pairs, inner_frozen, keyword_map_holding, list_holding, map_holding, module_holding, tuple_holding}
use Rattle.template_values_forms.proofs.Gathering.{entry_behind}
use Rattle.template_values_forms.proofs.Levels.{inner_frozen-below, pairs_made, vals_made}
use Rattle.template_values_forms.proofs.freezing.+freeze.Goals as goal

pub freeze_inner-returns : goal.freeze_inner-returns
freeze_inner-returns g t c = rw (inner_frozen-below (g.R.Records.known c.args.records.now) c.args.left c.args.value.now c.if-left-eq0.false) c.freeze_nested.ensures

pub freeze_entries-loop-entry-preserved : goal.freeze_entries-loop-entry-preserved
freeze_entries-loop-entry-preserved g t c =
    let inner = inner_frozen (g.R.Records.known c.args.records.now) c.args.left in
    entry_behind inner c.loop-entry.frozen.items c.push.new.self.items c.in_ok-freeze_entry.field-0 c.args.entries.now c.loop-entry.entry-index
    c.entry-item.result (frozen_pairs inner (pairs_of (pairs_in c.args.entries.now))) (omega arith) c.entry-item.is c.in_ok-freeze_entry.ensures c.in_ok-push.ensures.items c.loop-entry.invariant

pub freeze_map-returns : goal.freeze_map-returns
freeze_map-returns g t c =
    pairs_made map_holding (λ us. refl) (g.R.Records.known c.args.records.now) c.args.left (pairs_of (pairs_in c.args.entries.now))
    (pairs_in c.in_ok-freeze_entries.field-0.items) c.from_map.result (omega (arith, c.requires)) c.in_ok-freeze_entries.ensures
    c.from_map.ensures.made c.from_map.ensures.refused

pub freeze_nested-returns-in_ok-freeze_items-in-List : goal.freeze_nested-returns-in_ok-freeze_items-in-List
freeze_nested-returns-in_ok-freeze_items-in-List g t c = rw c.in-List.ensures
    (vals_made list_holding (λ us. refl) (g.R.Records.known c.args.records.now) c.args.left (vals_of c.in-List.items.now)
    c.in_ok-freeze_items-in-List.field-0.items c.from_list.result (omega (arith, c.requires)) c.in_ok-freeze_items-in-List.ensures
    c.from_list.ensures.made c.from_list.ensures.refused)

pub freeze_nested-returns-in_ok-freeze_items-in-Tuple : goal.freeze_nested-returns-in_ok-freeze_items-in-Tuple
freeze_nested-returns-in_ok-freeze_items-in-Tuple g t c = rw c.in-Tuple.ensures
    (vals_made tuple_holding (λ us. refl) (g.R.Records.known c.args.records.now) c.args.left (vals_of c.in-Tuple.items.now)
    c.in_ok-freeze_items-in-Tuple.field-0.items c.from_tuple.result (omega (arith, c.requires)) c.in_ok-freeze_items-in-Tuple.ensures
    c.from_tuple.ensures.made c.from_tuple.ensures.refused)

pub freeze_nested-returns-in_ok-freeze_entries-in-KeywordMap : goal.freeze_nested-returns-in_ok-freeze_entries-in-KeywordMap
freeze_nested-returns-in_ok-freeze_entries-in-KeywordMap g t c = rw c.in-KeywordMap.ensures
    (pairs_made keyword_map_holding (λ us. refl) (g.R.Records.known c.args.records.now) c.args.left (pairs_of (pairs_in c.in-KeywordMap.entries.now))
    (pairs_in c.in_ok-freeze_entries-in-KeywordMap.field-0.items) c.from_kwargs.result (omega (arith, c.requires))
    c.in_ok-freeze_entries-in-KeywordMap.ensures c.from_kwargs.ensures.made c.from_kwargs.ensures.refused)

pub freeze_nested-returns-in_ok-from_str-in-Module : goal.freeze_nested-returns-in_ok-from_str-in-Module
freeze_nested-returns-in_ok-from_str-in-Module g t c = rw (c.in-Module.ensures, ← c.in_ok-from_str-in-Module.ensures.ok)
    (pairs_made (module_holding (string_bytes c.in_ok-from_str-in-Module.field-0)) (λ us. refl) (g.R.Records.known c.args.records.now) c.args.left
    (pairs_of (pairs_in c.in-Module.entries.now)) (pairs_in c.in_ok-entries-in-Module.entries.items) c.from_module.result (omega (arith, c.requires))
    c.in_ok-entries-in-Module.ensures c.from_module.ensures.made c.from_module.ensures.refused)
