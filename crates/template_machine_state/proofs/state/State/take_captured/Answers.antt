-- The text of the last capture is taken.
use Rattle.std.proofs.Common.{[], length, ap, ◌∙◌}
use Rattle.std.specs.Prelude.{string_bytes}
use Rattle.template_machine_meaning.specs.World.{keeps, drops}
use Rattle.template_machine_state.proofs.Worlds.{capturing}
use Rattle.template_machine_state.proofs.Innermost.{last_changed_some, last_none, last_some, world_some}
use Rattle.template_machine_state.proofs.state.State.take_captured.Goals as goal

pub returns-clause-taken : goal.returns-clause-taken
returns-clause-taken c =
    rw (← ap (λ s. s.captures) c.self.view_is)
    (last_some c.take.result (λ text. keeps (string_bytes text)) c.self.inside.captures.items c.last_place-last.result c.index_mut.result.now
    (c.last_place-last.ensures ∙ ap length c.as_slice.ensures.value) c.index_mut.ensures.value c.take.ensures.taken)

pub returns-clause-emptied : goal.returns-clause-emptied
returns-clause-emptied c =
    let i = c.self.inside in
    rw (← c.self.view_is)
    (world_some c.take.result (capturing i) _ _
    (last_changed_some c.take.result (λ d. keeps []) i.captures.items c.last_place-last.result c.index_mut.result.now c.take.new.self
    (c.last_place-last.ensures ∙ ap length c.as_slice.ensures.value) c.index_mut.ensures.value c.take.ensures.emptied))

pub returns-clause-dropped : goal.returns-clause-dropped
returns-clause-dropped c =
    rw (← ap (λ s. s.captures) c.self.view_is)
    (last_none c.take.result c.self.inside.captures.items c.last_place-last.result c.index_mut.result.now drops
    (c.last_place-last.ensures ∙ ap length c.as_slice.ensures.value) c.index_mut.ensures.value c.take.ensures.dropped)
