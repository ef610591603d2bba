-- The last capture has the text.
use Rattle.std.proofs.Common.{length, ap, ◌∙◌}
use Rattle.template_machine_meaning.specs.Captures.{with_text}
use Rattle.template_machine_state.proofs.Worlds.{capturing}
use Rattle.template_machine_state.proofs.Innermost.{last_changed_on, world_on}
use Rattle.template_machine_state.proofs.state.State.capture.Goals as goal

pub returns-clause-caught : goal.returns-clause-caught
returns-clause-caught c =
    let i = c.self.inside in
    rw (← c.self.view_is)
    (world_on c.write.result (capturing i) _ _
    (last_changed_on c.write.result (with_text c.args.text.now) i.captures.items c.last_place-last.result c.index_mut.result.now c.write.new.self
    (c.last_place-last.ensures ∙ ap length c.as_slice.ensures.value) c.index_mut.ensures.value c.write.ensures.written))
