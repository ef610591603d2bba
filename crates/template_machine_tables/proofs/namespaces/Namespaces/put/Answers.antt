-- The namespace of the number has the value.
use Rattle.std.proofs.Common.{◌<◌, List, length, IsSome, slice_get, sym, subst, arith}
use Rattle.std.specs.BTreeMap.{insert_entry}
use Rattle.template_values_model.specs.Val.{Val, text}
use Rattle.template_values_core.specs.Order.{val_cmp}
use Rattle.template_machine_tables.proofs.Replacing.{changed_there, there_within}
use Rattle.template_machine_tables.proofs.namespaces.Namespaces.put.Goals as goal

pub index_mut-requires : goal.index_mut-requires
index_mut-requires c =
    let made = c.self.inside.made in
    let within : c.args.number < length made.items =
    there_within made.items c.args.number (subst (λ (xs : List (List (Val × Val))). IsSome (slice_get xs c.args.number)) (sym c.self.view_is) c.requires) in
    omega (arith, made.ok.0)

pub returns-clause-put : goal.returns-clause-put
returns-clause-put c =
    rw (← c.self.view_is)
    (changed_there c.put.result (λ (entries : List (Val × Val)). insert_entry val_cmp entries (text c.args.name.now) c.args.value)
    c.self.inside.made.items c.args.number c.index_mut.result.now c.put.new.self
    (subst (λ (xs : List (List (Val × Val))). IsSome (slice_get xs c.args.number)) (sym c.self.view_is) c.requires)
    c.index_mut.ensures.value c.put.ensures.put)
