use Rattle.std.proofs.Common.{sym, rules}
use Rattle.std.proofs.lemmas.Fn.{always_returns_same}
use Rattle.template_values_core.specs.Order.{val_cmp}
use Rattle.template_values_core.specs.declared.value.Entry.{Entry}
use Rattle.template_values_core.proofs.Halving.{entry_under-found, entry_under-parted, rising_searchable}
use Rattle.template_values_core.proofs.lookup.entry_under.Goals as goal

pub returns-in-Ok : goal.returns-in-Ok
returns-in-Ok c =
    let found = c.in-Ok.ensures.position (λ (e : Entry). val_cmp e.key c.args.key.now)
    (always_returns_same _ _ _ (λ a r q k. search rules)) c.index-entries-at.result in
    sym (entry_under-found c.args.key.now c.args.entries.now c.in-Ok.at c.index-entries-at.result c.requires c.in-Ok.ensures.bound found)

pub returns-in-Err : goal.returns-in-Err
returns-in-Err c =
    let parted = c.in-Err.ensures.position (λ (e : Entry). val_cmp e.key c.args.key.now)
    (always_returns_same _ _ _ (λ a r q k. search rules)) (rising_searchable c.args.key.now c.args.entries.now c.requires) in
    sym (entry_under-parted c.args.key.now c.args.entries.now c.in-Err.field-0 parted)
