use Rattle.template_machine_perform.proofs.Lifting.{unchanged_keeps}
use Rattle.template_machine_perform.proofs.Catching.{raw_caught}
use Rattle.template_machine_perform.proofs.writing.capture_text.Goals as goal

pub returns : goal.returns
returns c s operands =
    raw_caught s c.args.text.now operands c.args.state.now _ _
    (unchanged_keeps c.capture.result c.args.state.now c.capture.new.self c.capture.ensures.unchanged)
    c.requires c.capture.ensures.caught c.capture.ensures.refused
