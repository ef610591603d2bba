-- The value goes to the place that is kept of the name.
use Rattle.std.proofs.Common.{◌∙◌, ◌<◌, sym, ap, length, arith}
use Rattle.template_machine_meaning.specs.World.{local_at, put_local}
use Rattle.template_machine_frames.proofs.Named.{not_found, put_at, within}
use Rattle.template_machine_frames.proofs.indexed.Indexed.insert.Goals as goal

pub index_mut-requires : goal.index_mut-requires
index_mut-requires c =
    let locals = c.self.inside.locals in
    let h : c.in-Some.place.now < length locals.items =
    within c.args.name.now locals.items c.in-Some.place.now (sym (c.in-Some.ensures.value ∙ c.self.invariant c.args.name.now)) in
    omega (arith, locals.ok.0)

pub add-requires : goal.add-requires
add-requires c =
    sym (ap (local_at c.args.name.now) c.self.view_is)
    ∙ not_found c.args.name.now c.self.inside.locals.items (sym (c.in-None.ensures.value ∙ c.self.invariant c.args.name.now))

pub returns-in-Some-clause-stored : goal.returns-in-Some-clause-stored
returns-in-Some-clause-stored c =
    put_at c.args.name.now c.args.value c.self.inside.locals.items c.in-Some.place.now c.index_mut.result.now c.set.new.self
    (sym (c.in-Some.ensures.value ∙ c.self.invariant c.args.name.now)) c.index_mut.ensures.value
    (ap (λ n. n.now) c.set.ensures.name) c.set.ensures.value
    ∙ ap (put_local c.args.name.now c.args.value) c.self.view_is
