use Rattle.std.proofs.Common.{◌≡◌, ◌≤◌, length, take, reverse}
use Rattle.template_machine_meaning.specs.Rounds.{innermost_loop}
use Rattle.template_machine_frames.proofs.context.innermost.Given as goal

abbrev pub invariant-loop-left : goal.invariant-loop-left
invariant-loop-left l = record {
  within : l.left ≤ length l.stack;
  rest : innermost_loop (reverse (take l.left l.stack)) ≡ innermost_loop (reverse l.stack);
}

abbrev pub decreases-loop-left : goal.decreases-loop-left
decreases-loop-left l = l.left
