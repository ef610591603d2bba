use Rattle.std.proofs.Common.{◌*◌, [], ◌∷◌, refl, ap, ◌∙◌}
use Rattle.template_values_core.specs.Shape.{pairs_in}
use Rattle.template_compiler_walk.specs.Containers.{kwargs_made}
use Rattle.template_compiler_process.specs.Process as events
use Rattle.template_compiler_code.specs.Code as codes
use Rattle.template_compiler_code.specs.Code.{single}
use Rattle.template_compiler_code.specs.Steps.{taken, on_taken, giving, paired}
use Rattle.template_machine_meaning.specs.Replies.{kinded}
use Rattle.template_machine_meaning.proofs.RunsKept.{world_stays}
use Rattle.template_machine_acts.specs.Comings.{behind_it}
use Rattle.template_machine_operands.specs.Operands.{operands_in}
use Rattle.template_machine_steps.specs.Performs.{ruled}
use Rattle.template_machine_steps.proofs.Sparing.{kinded_spares}
use Rattle.template_machine_steps.proofs.Stepping.{given_out, refusal_out}
use Rattle.template_machine_steps.proofs.Gathering.{many_refused, kwargs_act}
use Rattle.template_machine_steps.proofs.containers.build_kwargs.Goals as goal

pub returns-in_err-entries : goal.returns-in_err-entries
returns-in_err-entries c program limit mode w =
    many_refused (ruled program limit mode) (codes.build_kwargs c.args.count) _ w _ _ _ _ _ (c.args.count * 2) (world_stays w)
    (λ lacks next before place. ap (λ t. on_taken t (λ vs rest. giving next place rest (events.build_kwargs (paired vs)))) lacks) c.in_err-entries.ensures.refused c.from_residual.ensures.1

pub returns-in_err-built : goal.returns-in_err-built
returns-in_err-built c program limit mode w =
    let pairs = c.in_ok-entries.ensures.taken in
    refusal_out (ruled program limit mode) (codes.build_kwargs c.args.count) _ w _ _ _ _ _
    (λ x u. behind_it x (single u ∷ operands_in c.take_pairs.new.self))
    (kinded (kwargs_made (pairs_in c.in_ok-entries.entries.items))) refl
    (λ before x at around. kwargs_act (ruled program limit mode) before x c.args.count pairs.0 _ _ (ap (λ o. taken (c.args.count * 2) o []) at ∙ pairs.1.0) pairs.1.1) (kinded_spares (kwargs_made (pairs_in c.in_ok-entries.entries.items))) c.in_err-built.ensures c.from_residual-in_err-built.ensures.1

pub returns : goal.returns
returns c program limit mode w =
    let pairs = c.in_ok-entries.ensures.taken in
    given_out (ruled program limit mode) (codes.build_kwargs c.args.count) _ w _ _ (operands_in c.take_pairs.new.self)
    (kinded (kwargs_made (pairs_in c.in_ok-entries.entries.items))) _
    (λ before x at around. kwargs_act (ruled program limit mode) before x c.args.count pairs.0 _ _ (ap (λ o. taken (c.args.count * 2) o []) at ∙ pairs.1.0) pairs.1.1) c.in_ok-built.ensures c.push.ensures.pushed c.push.ensures.refused
