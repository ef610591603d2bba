use Rattle.std.proofs.Common.{◌∷◌, suc, refl, sym, subst}
use Rattle.template_compiler_code.specs.Code as codes
use Rattle.template_compiler_code.specs.Code.{single}
use Rattle.template_machine_meaning.proofs.RunsKept.{world_stays}
use Rattle.template_machine_operands.specs.Operands.{operands_in}
use Rattle.template_machine_steps.specs.Performs.{ruled}
use Rattle.template_machine_perform.specs.Performs.{StepsWriting}
use Rattle.template_machine_steps.proofs.Stepping.{lost_one}
use Rattle.template_machine_perform.proofs.Lifting.{no_programs, spared_tells, stray_tells, steps_write}
use Rattle.template_machine_perform.proofs.Straying.{none_there}
use Rattle.template_machine_perform.proofs.writing.emit.Goals as goal

pub emit_value-requires : goal.emit_value-requires
emit_value-requires g c = none_there _ _ c.has_capture.ensures c.if-has_capture.false

pub returns-in_err-value-clause-failures : goal.returns-in_err-value-clause-failures
returns-in_err-value-clause-failures g c = stray_tells c.from_residual.result _ _ c.in_err-value.ensures.kind c.from_residual.ensures.1

pub returns-in_err-value-clause-steps : goal.returns-in_err-value-clause-steps
returns-in_err-value-clause-steps g c program limit plain =
    steps_write _ codes.emit _ c.args.state.now _ _ _ _ _
    (lost_one (ruled program limit c.args.mode) codes.emit _ c.args.state.now _ _ _ _ _ (world_stays c.args.state.now) tt
    c.in_err-value.ensures.none c.in_err-value.ensures.kind c.from_residual.ensures.1)

pub returns-then-has_capture-clause-failures : goal.returns-then-has_capture-clause-failures
returns-then-has_capture-clause-failures g c =
    spared_tells c.capture_value.result _ (c.capture_value.ensures no_programs 0 (operands_in c.take.new.self) refl).spares

pub returns-then-has_capture-clause-steps : goal.returns-then-has_capture-clause-steps
returns-then-has_capture-clause-steps g c program limit plain =
    subst (λ o. StepsWriting (ruled program limit c.args.mode) codes.emit o c.args.state.now (g.S.Sink.taken c.args.sink.now) c.capture_value.result suc
    (operands_in c.take.new.self) c.capture_value.new.state (g.S.Sink.taken c.args.sink.now)) (sym c.in_ok-value.ensures.taken)
    (steps_write (ruled program limit c.args.mode) codes.emit (single c.in_ok-value.value ∷ operands_in c.take.new.self) c.args.state.now _ _ _ _ _
    (c.capture_value.ensures program limit (operands_in c.take.new.self) plain))

pub returns-clause-steps : goal.returns-clause-steps
returns-clause-steps g c program limit plain =
    subst (λ o. StepsWriting (ruled program limit c.args.mode) codes.emit o c.args.state.now (g.S.Sink.taken c.args.sink.now) c.emit_value.result suc
    (operands_in c.take.new.self) c.args.state.now (g.S.Sink.taken c.emit_value.new.sink)) (sym c.in_ok-value.ensures.taken)
    (c.emit_value.ensures.steps program limit (operands_in c.take.new.self) plain)
