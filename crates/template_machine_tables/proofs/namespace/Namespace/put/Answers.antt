-- The value goes to the key that is the name, or a new entry to its place.
use Rattle.std.proofs.Common.{◌≡◌, ◌∙◌, sym, ap, refl, List, Ok, Err, arith}
use Rattle.std.specs.BTreeMap.{insert_entry}
use Rattle.template_values_model.specs.Val.{Val, text}
use Rattle.template_values_core.specs.Order.{val_cmp}
use Rattle.template_values_core.specs.Shape.{pairs_in}
use Rattle.template_values_core.specs.declared.value.Entry.{Entry}
use Rattle.template_machine_tables.specs.Places.{place_among}
use Rattle.template_machine_tables.proofs.Placing.{put_found, put_new}
use Rattle.template_machine_tables.proofs.namespace.Namespace.put.Goals as goal

pub returns-in-Ok-clause-put : goal.returns-in-Ok-clause-put
returns-in-Ok-clause-put c =
    let k : Val = text c.args.name.now in
    let entries = c.self.inside.entries.items in
    let found : place_among k (pairs_in entries) ≡ Ok c.in-Ok.place =
    ap (λ (es : List Entry). place_among k (pairs_in es)) (sym c.as_slice.ensures.value) ∙ sym c.in-Ok.ensures.is in
    put_found 0 k c.args.value entries c.in-Ok.place c.in-Ok.place c.index_mut.result.now c.set_value.new.entry found (omega arith)
    c.index_mut.ensures.value c.set_value.ensures.key c.set_value.ensures.value
    ∙ ap (λ (ps : List (Val × Val)). insert_entry val_cmp ps k c.args.value) c.self.view_is

pub returns-in_ok-insert-in-Err-clause-put : goal.returns-in_ok-insert-in-Err-clause-put
returns-in_ok-insert-in-Err-clause-put c =
    let k : Val = text c.args.name.now in
    let entries = c.self.inside.entries.items in
    let new : place_among k (pairs_in entries) ≡ Err c.in-Err.place =
    ap (λ (es : List Entry). place_among k (pairs_in es)) (sym c.as_slice.ensures.value) ∙ sym c.in-Err.ensures.is in
    let entry : Entry = record { key = c.in_ok-key-in-Err.key; value = c.args.value } in
    ap pairs_in c.in_ok-insert-in-Err.ensures.items
    ∙ put_new 0 k c.args.value entries c.in-Err.place c.in-Err.place entry new (omega arith) c.in_ok-key-in-Err.ensures.made refl
    ∙ ap (λ (ps : List (Val × Val)). insert_entry val_cmp ps k c.args.value) c.self.view_is
