use Rattle.std.proofs.Common.{◌∷◌, refl, ap, ◌∙◌}
use Rattle.template_compiler_walk.specs.Containers.{tuple_made}
use Rattle.template_compiler_process.specs.Process as events
use Rattle.template_compiler_code.specs.Code as codes
use Rattle.template_compiler_code.specs.Code.{single}
use Rattle.template_compiler_code.specs.Steps.{handed, on_taken, giving}
use Rattle.template_machine_meaning.specs.Replies.{kinded}
use Rattle.template_machine_meaning.proofs.RunsKept.{world_stays}
use Rattle.template_machine_acts.specs.Comings.{behind_it}
use Rattle.template_machine_operands.specs.Operands.{operands_in}
use Rattle.template_machine_acts.proofs.Laws.{tuple_acts}
use Rattle.template_machine_steps.specs.Performs.{ruled}
use Rattle.template_machine_steps.proofs.Sparing.{kinded_spares}
use Rattle.template_machine_steps.proofs.Stepping.{given_out, refusal_out}
use Rattle.template_machine_steps.proofs.Gathering.{handed_refused}
use Rattle.template_machine_steps.proofs.containers.build_tuple.Goals as goal

pub returns-in_err-items : goal.returns-in_err-items
returns-in_err-items c program limit mode w =
    handed_refused (ruled program limit mode) (codes.build_tuple c.args.count) _ w _ _ _ _ _ c.args.count (world_stays w)
    (λ lacks next before place. ap (λ t. on_taken t (λ vs rest. giving next place rest (events.build_tuple vs))) lacks) c.in_err-items.ensures.refused c.from_residual.ensures.1

pub returns-in_err-tuple : goal.returns-in_err-tuple
returns-in_err-tuple c program limit mode w =
    refusal_out (ruled program limit mode) (codes.build_tuple c.args.count) _ w _ _ _ _ _
    (λ x u. behind_it x (single u ∷ operands_in c.take_handed.new.self))
    (kinded (tuple_made c.in_ok-items.items.items)) refl
    (λ before x at around. tuple_acts (ruled program limit mode) before x c.args.count _ _ (ap (λ o. handed c.args.count o) at ∙ c.in_ok-items.ensures.taken)) (kinded_spares (tuple_made c.in_ok-items.items.items)) c.in_err-tuple.ensures c.from_residual-in_err-tuple.ensures.1

pub returns : goal.returns
returns c program limit mode w =
    given_out (ruled program limit mode) (codes.build_tuple c.args.count) _ w _ _ (operands_in c.take_handed.new.self)
    (kinded (tuple_made c.in_ok-items.items.items)) _
    (λ before x at around. tuple_acts (ruled program limit mode) before x c.args.count _ _ (ap (λ o. handed c.args.count o) at ∙ c.in_ok-items.ensures.taken)) c.in_ok-tuple.ensures c.push.ensures.pushed c.push.ensures.refused
