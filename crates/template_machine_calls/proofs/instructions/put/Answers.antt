use Rattle.std.proofs.Common.{Some, None, Ok, refl, sym, subst}
use Rattle.template_machine_operands.specs.Operands.{operands_in}
use Rattle.template_machine_calls.specs.Calls.{Puts}
use Rattle.template_machine_calls.specs.declared.reached.Reached.{Reached}
use Rattle.template_machine_calls.proofs.Giving.{puts_stop, puts_want}
use Rattle.template_machine_calls.proofs.instructions.put.Goals as goal

pub returns-in_err-turned-in-Value : goal.returns-in_err-turned-in-Value
returns-in_err-turned-in-Value c =
    subst (λ (o : Reached). Puts o c.args.state.now (operands_in c.args.operands.now) c.from_residual.result (operands_in c.args.operands.now)) (sym c.in-Value.is)
    (puts_stop c.in-Value.value c.in-Value.turnings c.args.state.now _ _ _ _ c.in_err-turned-in-Value.ensures c.from_residual.ensures.1)

pub returns-in_err-push-in-Value : goal.returns-in_err-push-in-Value
returns-in_err-push-in-Value c =
    subst (λ (o : Reached). Puts o c.args.state.now (operands_in c.args.operands.now) c.from_residual-in_err-push-in-Value.result (operands_in c.push.new.self)) (sym c.in-Value.is)
    (puts_want c.in-Value.value c.in-Value.turnings c.args.state.now _ _ _ _ c.in_err-push-in-Value.ensures.refused c.from_residual-in_err-push-in-Value.ensures.1)

pub returns-in_ok-push-in-Value : goal.returns-in_ok-push-in-Value
returns-in_ok-push-in-Value c =
    subst (λ (o : Reached). Puts o c.args.state.now (operands_in c.args.operands.now) (Ok None) (operands_in c.push.new.self)) (sym c.in-Value.is)
    (c.in_ok-turned-in-Value.turned, c.in_ok-turned-in-Value.ensures, c.in_ok-push-in-Value.ensures.pushed)

pub returns-in-Enters : goal.returns-in-Enters
returns-in-Enters c =
    subst (λ (o : Reached). Puts o c.args.state.now (operands_in c.args.operands.now) (Ok (Some c.in-Enters.entry)) (operands_in c.args.operands.now)) (sym c.in-Enters.is) (refl, refl)
