use Rattle.std.proofs.Common.{length}
use Rattle.template_machine_state.specs.Cuts.{CutSome}
use Rattle.template_machine_state.proofs.leaving.cut_frames.Given as goal

abbrev pub invariant-loop-ctx : goal.invariant-loop-ctx
invariant-loop-ctx l = CutSome l.held l.count l.initial.ctx l.initial.given l.initial.closed l.ctx l.given l.closed

abbrev pub decreases-loop-ctx : goal.decreases-loop-ctx
decreases-loop-ctx l = length l.ctx.frames
