use Rattle.template_compiler_code.specs.Code as codes
use Rattle.template_machine_meaning.proofs.RunsKept.{world_stays}
use Rattle.template_machine_state.specs.Changes.{enclosed}
use Rattle.template_machine_steps.specs.Performs.{spot}
use Rattle.template_machine_perform.proofs.Straying.{none_there, enclose_astray, astray_out}
use Rattle.template_machine_perform.proofs.Scoping.{changed_out, only_stored_keeps, enclosed_acts}
use Rattle.template_machine_perform.proofs.macros.enclose.Goals as goal

pub returns-then-not-has_frame : goal.returns-then-not-has_frame
returns-then-not-has_frame c s operands =
    astray_out s (codes.enclose c.args.name.now) operands c.args.state.now _ _ _ _ (world_stays c.args.state.now)
    (λ before place left taken. enclose_astray s before (spot place operands c.args.state.now left taken) c.args.name.now (none_there _ _ c.has_frame.ensures c.if-not-has_frame.true)) c.new.ensures

pub returns : goal.returns
returns c s operands =
    changed_out s (codes.enclose c.args.name.now) operands c.args.state.now _ _ operands _ (enclosed c.args.name.now c.args.state.now)
    (only_stored_keeps c.enclose.result c.args.state.now c.enclose.new.self c.enclose.ensures.rest)
    (λ before place left taken. enclosed_acts s before (spot place operands c.args.state.now left taken) c.args.name.now (c.has_frame.ensures.0 c.if-not-has_frame.false))
    c.enclose.ensures.enclosed c.enclose.ensures.refused
