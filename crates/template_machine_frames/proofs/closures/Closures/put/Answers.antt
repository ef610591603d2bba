-- The closure of the number has the value.
use Rattle.std.proofs.Common.{◌<◌, List, length, IsSome, slice_get, sym, subst, arith}
use Rattle.template_machine_meaning.specs.World.{Bindings, put_local}
use Rattle.template_machine_frames.proofs.Replacing.{changed_there, there_within}
use Rattle.template_machine_frames.proofs.closures.Closures.put.Goals as goal

pub index_mut-requires : goal.index_mut-requires
index_mut-requires c =
    let made = c.self.inside.made in
    let within : c.args.number < length made.items =
    there_within made.items c.args.number (subst (λ (xs : List Bindings). IsSome (slice_get xs c.args.number)) (sym c.self.view_is) c.requires) in
    omega (arith, made.ok.0)

pub returns-clause-put : goal.returns-clause-put
returns-clause-put c =
    rw (← c.self.view_is)
    (changed_there c.insert.result (put_local c.args.name.now c.args.value)
    c.self.inside.made.items c.args.number c.index_mut.result.now c.insert.new.self
    (subst (λ (xs : List Bindings). IsSome (slice_get xs c.args.number)) (sym c.self.view_is) c.requires)
    c.index_mut.ensures.value c.insert.ensures.stored)
