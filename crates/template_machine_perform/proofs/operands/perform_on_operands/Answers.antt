use Rattle.std.proofs.Common.{refl}
use Rattle.template_compiler_code.specs.Code as codes
use Rattle.template_compiler_code.proofs.Operators.{with_operator}
use Rattle.template_machine_perform.proofs.Lifting.{straight_leads}
use Rattle.template_machine_perform.proofs.operands.perform_on_operands.Goals as goal

pub returns-in-Some : goal.returns-in-Some
returns-in-Some c program limit =
    straight_leads _ (codes.operate c.in-Some.op) _ _ _ _ _ _ _ (with_operator _ _ c.in-Some.ensures) c.straight.ensures (c.operate.ensures program limit c.args.state.now refl)
