use Rattle.std.proofs.Common.{◌≡◌, ◌≤◌, length, take, reverse}
use Rattle.template_machine_meaning.specs.World.{depth_within}
use Rattle.template_machine_frames.proofs.context.depth_behind.Given as goal

abbrev pub invariant-loop-left : goal.invariant-loop-left
invariant-loop-left l = record {
  within : l.left ≤ length l.stack;
  rest : depth_within (reverse (take l.left l.stack)) ≡ depth_within (reverse l.stack);
}

abbrev pub decreases-loop-left : goal.decreases-loop-left
decreases-loop-left l = l.left
