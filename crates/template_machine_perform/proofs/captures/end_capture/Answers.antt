use Rattle.template_compiler_code.specs.Code as codes
use Rattle.template_machine_meaning.proofs.RunsKept.{world_stays}
use Rattle.template_machine_operands.specs.Operands.{operands_in}
use Rattle.template_machine_steps.specs.Performs.{spot}
use Rattle.template_machine_steps.proofs.Stepping.{want_out}
use Rattle.template_machine_perform.proofs.Straying.{none_there, end_capture_astray, astray_out}
use Rattle.template_machine_perform.proofs.Catching.{ended_out, uncaptured_keeps}
use Rattle.template_machine_perform.proofs.captures.end_capture.Goals as goal

pub returns-then-not-has_capture : goal.returns-then-not-has_capture
returns-then-not-has_capture c s =
    astray_out s codes.end_capture _ c.args.state.now _ _ _ _ (world_stays c.args.state.now)
    (λ before place left taken. end_capture_astray s before (spot place _ c.args.state.now left taken) (none_there _ _ c.has_capture.ensures c.if-not-has_capture.true)) c.new.ensures

pub returns-in_err-value : goal.returns-in_err-value
returns-in_err-value c s =
    want_out s codes.end_capture _ c.args.state.now _ _ _ _ _ (uncaptured_keeps c.args.state.now _ c.in_err-value.ensures.ended)
    c.in_err-value.ensures.refused c.from_residual.ensures.1

pub returns : goal.returns
returns c s =
    ended_out s (operands_in c.args.operands.now) (operands_in c.push.new.self) c.args.state.now c.end_capture.new.self c.in_ok-value.value c.push.result
    (c.has_capture.ensures.0 c.if-not-has_capture.false) c.in_ok-value.ensures.given c.in_ok-value.ensures.ended c.push.ensures.pushed c.push.ensures.refused
