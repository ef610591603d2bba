-- One frame more is gone.
use Rattle.std.proofs.Common.{◌<◌, length, arith}
use Rattle.template_machine_state.proofs.Cutting.{cut_more}
use Rattle.template_machine_state.proofs.leaving.cut_frames.Goals as goal

pub loop-ctx-preserved : goal.loop-ctx-preserved
loop-ctx-preserved c =
    let many : c.args.count < length c.loop-ctx.ctx.frames = omega (arith, c.frames.ensures, c.loop-ctx-test.true) in
    cut_more c.args.held c.args.count c.args.ctx.now c.loop-ctx.ctx c.cut_innermost.new.ctx c.args.given.now c.loop-ctx.given c.cut_innermost.new.given
    c.args.closed.now c.loop-ctx.closed c.cut_innermost.new.closed c.loop-ctx.invariant many c.cut_innermost.ensures
