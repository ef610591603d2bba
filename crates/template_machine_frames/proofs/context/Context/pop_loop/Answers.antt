-- The last frame is gone with its loop, the others stay.
use Rattle.std.proofs.Common.{length, ap, ◌∙◌}
use Rattle.template_machine_frames.proofs.Innermost.{last_dropped, last_loop}
use Rattle.template_machine_frames.proofs.context.Context.pop_loop.Goals as goal

pub returns-clause-given : goal.returns-clause-given
returns-clause-given c =
    rw (← ap (λ s. s.frames) c.self.view_is)
    (last_loop c.take_loop-current.result c.self.inside.stack.items c.last_place-last.result c.index_mut.result.now
    (c.last_place-last.ensures ∙ ap length c.as_slice.ensures.value) c.index_mut.ensures.value c.take_loop-current.ensures.given)

pub returns-clause-frames : goal.returns-clause-frames
returns-clause-frames c =
    rw (← ap (λ s. s.frames) c.self.view_is)
    (last_dropped c.self.inside.stack.items c.drop_last.new.stack.items c.last_place-last.result c.take_loop-current.new.self
    (c.last_place-last.ensures ∙ ap length c.as_slice.ensures.value) c.drop_last.ensures)
