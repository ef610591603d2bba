use Rattle.std.proofs.Common.{[]}
use Rattle.template_compiler_code.specs.Code as codes
use Rattle.template_machine_perform.proofs.Texts.{raw_out}
use Rattle.template_machine_perform.proofs.Lifting.{no_programs, spared_tells, steps_write}
use Rattle.template_machine_perform.proofs.Straying.{none_there}
use Rattle.template_machine_perform.proofs.writing.emit_raw.Goals as goal

pub returns-then-has_capture-clause-steps : goal.returns-then-has_capture-clause-steps
returns-then-has_capture-clause-steps g c s operands =
    steps_write s (codes.emit_raw c.args.text.now) operands c.args.state.now _ _ _ _ _ (c.capture_text.ensures s operands)

pub returns-then-has_capture-clause-failures : goal.returns-then-has_capture-clause-failures
returns-then-has_capture-clause-failures g c =
    spared_tells c.capture_text.result _ (c.capture_text.ensures no_programs []).spares

pub returns-clause-steps : goal.returns-clause-steps
returns-clause-steps g c s operands =
    raw_out s c.args.text.now operands c.args.state.now _ _ _ (none_there _ _ c.has_capture.ensures c.if-has_capture.false) c.write.ensures.written
