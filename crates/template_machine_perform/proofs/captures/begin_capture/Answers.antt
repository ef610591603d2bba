use Rattle.std.proofs.Common.{true, false, ap}
use Rattle.template_compiler_code.specs.View.{is_kept}
use Rattle.template_machine_perform.proofs.Lifting.{unchanged_keeps}
use Rattle.template_machine_perform.proofs.Catching.{begun_out}
use Rattle.template_machine_perform.proofs.captures.begin_capture.Goals as goal

pub returns-in-Capture : goal.returns-in-Capture
returns-in-Capture c s operands =
    begun_out s _ true operands c.args.state.now _ _
    (unchanged_keeps c.begin_capture.result _ _ c.begin_capture.ensures.unchanged)
    (ap is_kept c.in-Capture.is) c.begin_capture.ensures.begun c.begin_capture.ensures.refused

pub returns-in-Discard : goal.returns-in-Discard
returns-in-Discard c s operands =
    begun_out s _ false operands c.args.state.now _ _
    (unchanged_keeps c.begin_capture-in-Discard.result _ _ c.begin_capture-in-Discard.ensures.unchanged)
    (ap is_kept c.in-Discard.is) c.begin_capture-in-Discard.ensures.begun c.begin_capture-in-Discard.ensures.refused
