-- Those behind so many of the first.
use Rattle.std.proofs.Common.{arith}
use Rattle.template_machine_frames.proofs.Seen.{seen_out, seen_part}
use Rattle.template_machine_frames.proofs.context.seen.Goals as goal

pub returns-then-base-stack : goal.returns-then-base-stack
returns-then-base-stack c = seen_part c.args.stack.now c.args.base (omega (arith, c.if-base-stack.true))

pub returns-else-base-stack : goal.returns-else-base-stack
returns-else-base-stack c = seen_out c.args.stack.now c.args.base (omega (arith, c.if-base-stack.false))
