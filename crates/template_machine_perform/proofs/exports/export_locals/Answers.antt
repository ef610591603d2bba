use Rattle.std.proofs.Common.{◌≡◌, Ok, subst}
use Rattle.template_values_core.specs.Shape.{pairs_in}
use Rattle.template_compiler_code.specs.Code as codes
use Rattle.template_machine_meaning.specs.Replies.{kinded}
use Rattle.template_machine_meaning.proofs.RunsKept.{world_stays}
use Rattle.template_machine_operands.specs.Operands.{operands_in}
use Rattle.template_machine_operations.specs.Modules.{module_with}
use Rattle.template_machine_acts.specs.Comings.{ComesTo, with_value}
use Rattle.template_machine_steps.specs.Performs.{spot}
use Rattle.template_machine_steps.proofs.Stepping.{lost_one, pushed_out, want_out}
use Rattle.template_machine_perform.proofs.Straying.{none_there, export_astray, astray_out}
use Rattle.template_machine_perform.proofs.Scoping.{exported, export_refused}
use Rattle.template_machine_perform.proofs.exports.export_locals.Goals as goal

pub returns-in_err-written : goal.returns-in_err-written
returns-in_err-written c s =
    lost_one s codes.export_locals _ c.args.state.now _ _ _ _ _ (world_stays c.args.state.now) tt
    c.in_err-written.ensures.none c.in_err-written.ensures.kind c.from_residual.ensures.1

pub returns-then-not-has_frame : goal.returns-then-not-has_frame
returns-then-not-has_frame c s =
    astray_out s codes.export_locals _ c.args.state.now _ _ _ _ (world_stays c.args.state.now)
    (λ before place left taken. export_astray s before (spot place (operands_in c.args.operands.now) c.args.state.now left taken) _ _ c.in_ok-written.ensures.taken (none_there _ _ c.has_frame.ensures c.if-not-has_frame.true)) c.new.ensures

pub returns-in_err-names : goal.returns-in_err-names
returns-in_err-names c s =
    want_out s codes.export_locals _ c.args.state.now _ _ _ _ _ (world_stays c.args.state.now)
    c.in_err-names.ensures.refused c.from_residual-in_err-names.ensures.1

pub returns-in_err-module : goal.returns-in_err-module
returns-in_err-module c s =
    export_refused s _ (operands_in c.take.new.self) c.args.state.now _ _ c.in_ok-written.written (pairs_in c.in_ok-names.names.items) _
    c.in_ok-written.ensures.taken (c.has_frame.ensures.0 c.if-not-has_frame.false) c.in_ok-names.ensures.public c.in_err-module.ensures c.from_residual-in_err-module.ensures.1

pub returns : goal.returns
returns c s =
    pushed_out s codes.export_locals _ c.args.state.now _ _ _ c.args.state.now (operands_in c.take.new.self) c.in_ok-module.module
    (λ before place left taken.
    subst (λ r. ComesTo s before codes.export_locals (spot place (operands_in c.args.operands.now) c.args.state.now left taken) (with_value (spot place (operands_in c.args.operands.now) c.args.state.now left taken) (operands_in c.take.new.self) r))
    (subst (λ names. kinded (module_with names c.in_ok-written.written) ≡ Ok c.in_ok-module.module) c.in_ok-names.ensures.public c.in_ok-module.ensures)
    (exported s before (spot place (operands_in c.args.operands.now) c.args.state.now left taken) _ _ c.in_ok-written.ensures.taken (c.has_frame.ensures.0 c.if-not-has_frame.false)))
    c.push.ensures.pushed c.push.ensures.refused
