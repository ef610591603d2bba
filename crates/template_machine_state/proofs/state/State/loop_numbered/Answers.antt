-- A loop of an open frame comes before those that were closed.
use Rattle.std.proofs.Common.{List, Some, map, ap, ◌∙◌}
use Rattle.std.specs.Prelude.{option_copied}
use Rattle.template_machine_meaning.specs.World.{Loop}
use Rattle.template_machine_meaning.specs.Records.{loop_numbered, loops_of}
use Rattle.template_machine_state.proofs.Closing.{loop_behind, loop_in_front}
use Rattle.template_machine_state.proofs.state.State.loop_numbered.Goals as goal

pub returns-in-Some : goal.returns-in-Some
returns-in-Some c =
    let i = c.self.inside in
    rw (← c.self.view_is) (loop_in_front c.in-Some.current.now c.args.number (loops_of i.ctx.frames) (map Some i.closed.items) c.in-Some.ensures)

pub returns-in-None : goal.returns-in-None
returns-in-None c =
    let i = c.self.inside in
    rw (← c.self.view_is)
    (loop_behind (option_copied c.numbered_among.result) c.args.number (loops_of i.ctx.frames) (map Some i.closed.items) c.in-None.ensures
    (c.numbered_among.ensures ∙ ap (λ (ls : List Loop). loop_numbered c.args.number (map Some ls)) c.as_slice.ensures.value))
