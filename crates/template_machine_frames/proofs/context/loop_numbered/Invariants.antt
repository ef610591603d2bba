use Rattle.std.proofs.Common.{◌≡◌, ◌≤◌, length, take, reverse}
use Rattle.template_machine_meaning.specs.Records.{loop_numbered, loops_of}
use Rattle.template_machine_frames.proofs.context.loop_numbered.Given as goal

abbrev pub invariant-loop-left : goal.invariant-loop-left
invariant-loop-left l = record {
  within : l.left ≤ length l.stack;
  rest : loop_numbered l.number (loops_of (reverse (take l.left l.stack))) ≡ loop_numbered l.number (loops_of (reverse l.stack));
}

abbrev pub decreases-loop-left : goal.decreases-loop-left
decreases-loop-left l = l.left
