use Rattle.std.proofs.Common.{◌∙◌, sym, rules}
use Rattle.std.proofs.lemmas.Fn.{always_returns_same}
use Rattle.template_values_model.specs.Val.{text}
use Rattle.template_values_core.specs.Maps.{pairs_of}
use Rattle.template_values_core.specs.Order.{val_cmp}
use Rattle.template_values_core.specs.Shape.{pairs_in}
use Rattle.template_values_core.specs.declared.value.Entry.{Entry}
use Rattle.template_values_core.proofs.Halving.{entry_under-found, entry_under-parted, rising_searchable}
use Rattle.template_values_core.proofs.LastGiven.{entry_at-entry_under}
use Rattle.template_values_core.proofs.lookup.entry_found.Goals as goal

pub returns-in-Ok : goal.returns-in-Ok
returns-in-Ok c =
    let found = c.in-Ok.ensures.position (λ (e : Entry). val_cmp e.key (text c.args.name.now))
    (always_returns_same _ _ _ (λ a r q k. search rules)) c.index-entries-place.result in
    sym (entry_at-entry_under c.args.name.now (pairs_of (pairs_in c.args.entries.now))
    ∙ entry_under-found
    (text c.args.name.now) c.args.entries.now c.in-Ok.place c.index-entries-place.result c.requires c.in-Ok.ensures.bound found)

pub returns-in-Err : goal.returns-in-Err
returns-in-Err c =
    let parted = c.in-Err.ensures.position (λ (e : Entry). val_cmp e.key (text c.args.name.now))
    (always_returns_same _ _ _ (λ a r q k. search rules)) (rising_searchable (text c.args.name.now) c.args.entries.now c.requires) in
    sym (entry_at-entry_under c.args.name.now (pairs_of (pairs_in c.args.entries.now))
    ∙ entry_under-parted (text c.args.name.now) c.args.entries.now c.in-Err.field-0 parted)
