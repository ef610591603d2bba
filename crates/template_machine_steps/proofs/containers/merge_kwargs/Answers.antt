use Rattle.std.proofs.Common.{[], ◌∷◌, refl, ap, ◌∙◌}
use Rattle.template_compiler_process.specs.Process as events
use Rattle.template_compiler_code.specs.Code as codes
use Rattle.template_compiler_code.specs.Code.{single}
use Rattle.template_compiler_code.specs.Steps.{taken, on_taken, giving}
use Rattle.template_machine_meaning.specs.Spreads.{merged_keywords}
use Rattle.template_machine_meaning.proofs.RunsKept.{world_stays}
use Rattle.template_machine_acts.specs.Comings.{behind_it}
use Rattle.template_machine_operands.specs.Operands.{operands_in}
use Rattle.template_machine_steps.specs.Performs.{ruled}
use Rattle.template_machine_steps.proofs.Knowing.{merge_known}
use Rattle.template_machine_steps.proofs.Sparing.{merged_spares}
use Rattle.template_machine_steps.proofs.Stepping.{given_out, refusal_out}
use Rattle.template_machine_steps.proofs.Gathering.{many_refused, taken_as}
use Rattle.template_machine_steps.proofs.containers.merge_kwargs.Goals as goal

pub returns-in_err-maps : goal.returns-in_err-maps
returns-in_err-maps g c program limit w known =
    many_refused (ruled program limit c.args.mode) (codes.merge_kwargs c.args.count) _ w _ _ _ _ _ c.args.count (world_stays w)
    (λ lacks next before place. ap (λ t. on_taken t (λ vs rest. giving next place rest (events.merge_kwargs vs))) lacks) c.in_err-maps.ensures.refused c.from_residual.ensures.1

pub returns-in_err-merged : goal.returns-in_err-merged
returns-in_err-merged g c program limit w known =
    refusal_out (ruled program limit c.args.mode) (codes.merge_kwargs c.args.count) _ w _ _ _ _ _
    (λ x u. behind_it x (single u ∷ operands_in c.take_many.new.self))
    (merged_keywords c.args.mode (g.R.Records.known c.args.records.now) c.as_slice.result.now) refl
    (λ before x at around. merge_known (ruled program limit c.args.mode) before x w _ known around c.args.count _ _
    (taken_as c.args.count x.operands _ _ _ (ap (λ o. taken c.args.count o []) at ∙ c.in_ok-maps.ensures.taken) c.as_slice.ensures.value))
    (merged_spares c.args.mode (g.R.Records.known c.args.records.now) c.as_slice.result.now) c.in_err-merged.ensures c.from_residual-in_err-merged.ensures.1

pub returns : goal.returns
returns g c program limit w known =
    given_out (ruled program limit c.args.mode) (codes.merge_kwargs c.args.count) _ w _ _ (operands_in c.take_many.new.self)
    (merged_keywords c.args.mode (g.R.Records.known c.args.records.now) c.as_slice.result.now) _
    (λ before x at around. merge_known (ruled program limit c.args.mode) before x w _ known around c.args.count _ _
    (taken_as c.args.count x.operands _ _ _ (ap (λ o. taken c.args.count o []) at ∙ c.in_ok-maps.ensures.taken) c.as_slice.ensures.value))
    c.in_ok-merged.ensures c.push.ensures.pushed c.push.ensures.refused
