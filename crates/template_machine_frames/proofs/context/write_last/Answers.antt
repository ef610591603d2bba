-- The last frame writes another closure.
use Rattle.std.proofs.Common.{length, reverse, ap, ◌∙◌}
use Rattle.template_machine_frames.proofs.Innermost.{last_changed}
use Rattle.template_machine_frames.proofs.Seen.{writes_changed}
use Rattle.template_machine_frames.proofs.context.write_last.Goals as goal

pub returns-clause-frames : goal.returns-clause-frames
returns-clause-frames c =
    let stack = c.args.stack.now.items in
    last_changed (λ f. record f { writes = c.args.number }) stack c.last_place-last.result c.index_mut.result.now c.set_writes.new.self
    (c.last_place-last.ensures ∙ ap length c.as_slice.ensures.value) c.index_mut.ensures.value c.set_writes.ensures
    ∙ writes_changed c.args.number (reverse stack)
