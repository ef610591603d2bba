use Rattle.std.proofs.Common.{Ok, Err, refl, ap}
use Rattle.template_machine_calls.proofs.Printing.{caught_out, counted_as, none_open, sink_out, told_failures, uncaught_out}
use Rattle.template_machine_calls.proofs.formatted.put_text.Goals as goal

pub returns-in_err-capture-clause-steps : goal.returns-in_err-capture-clause-steps
returns-in_err-capture-clause-steps g c s v below writes =
    uncaught_out s v below c.args.state.now _ _ _ _ c.in_err-capture.ensures.refused c.in_err-capture.ensures.unchanged c.from_residual.ensures.1

pub returns-in_err-capture-clause-failures : goal.returns-in_err-capture-clause-failures
returns-in_err-capture-clause-failures g c = told_failures _ c.in_err-capture.field-0.0 _ c.from_residual.ensures.1

pub returns-then-has_capture-clause-steps : goal.returns-then-has_capture-clause-steps
returns-then-has_capture-clause-steps g c s v below writes =
    caught_out s v below c.args.state.now c.args.text.now writes _ _ _ (c.has_capture.ensures.0 c.if-has_capture.true) c.in_ok-capture.ensures.caught

pub returns-in-Ok-clause-steps : goal.returns-in-Ok-clause-steps
returns-in-Ok-clause-steps g c s v below writes =
    sink_out s v below c.args.state.now c.args.text.now writes _ _ (Ok tt) _ refl (none_open _ _ c.has_capture.ensures c.if-has_capture.false) c.in-Ok.ensures.written

pub returns-in-Err-clause-steps : goal.returns-in-Err-clause-steps
returns-in-Err-clause-steps g c s v below writes =
    sink_out s v below c.args.state.now c.args.text.now writes _ _ (Err c.in-Err.error) _ (ap Err c.of_writing.ensures)
    (none_open _ _ c.has_capture.ensures c.if-has_capture.false) c.in-Err.ensures.written

pub returns-in-Err-clause-failures : goal.returns-in-Err-clause-failures
returns-in-Err-clause-failures g c = counted_as (Unit {0}) _ _ _ _ c.of_writing.ensures c.in-Err.ensures.failures
