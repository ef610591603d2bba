-- The place that is kept of the name is its own.
use Rattle.std.proofs.Common.{◌∙◌, ◌<◌, sym, ap, length, arith}
use Rattle.template_machine_meaning.specs.World.{local_at}
use Rattle.template_machine_frames.proofs.Named.{found_here, not_found, within}
use Rattle.template_machine_frames.proofs.indexed.Indexed.get.Goals as goal

pub index-requires : goal.index-requires
index-requires c =
    let locals = c.self.inside.locals in
    let h : c.in-Some.place.now < length locals.items =
    within c.args.name.now locals.items c.in-Some.place.now (sym (c.in-Some.ensures.value ∙ c.self.invariant c.args.name.now)) in
    omega (arith, locals.ok.0)

pub returns-in-Some : goal.returns-in-Some
returns-in-Some c =
    found_here c.args.name.now c.self.inside.locals.items c.in-Some.place.now c.index.result.now
    (sym (c.in-Some.ensures.value ∙ c.self.invariant c.args.name.now)) c.index.ensures
    ∙ ap (local_at c.args.name.now) c.self.view_is

pub returns-in-None : goal.returns-in-None
returns-in-None c =
    sym (not_found c.args.name.now c.self.inside.locals.items (sym (c.in-None.ensures.value ∙ c.self.invariant c.args.name.now)))
    ∙ ap (local_at c.args.name.now) c.self.view_is
