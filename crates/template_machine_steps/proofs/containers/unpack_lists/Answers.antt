use Rattle.std.proofs.Common.{suc, [], ◌∷◌, refl, ap, ◌∙◌}
use Rattle.template_compiler_process.specs.Process.{spread, asks, on_all}
use Rattle.template_compiler_code.specs.Code as codes
use Rattle.template_compiler_code.specs.Code.{counted}
use Rattle.template_compiler_code.specs.Steps.{taken, on_taken}
use Rattle.template_machine_meaning.specs.Spreads.{items_of_each}
use Rattle.template_machine_meaning.proofs.RunsKept.{world_stays}
use Rattle.template_machine_acts.specs.Comings.{behind_it}
use Rattle.template_machine_operands.specs.Operands.{operands_in}
use Rattle.template_machine_steps.specs.Performs.{ruled}
use Rattle.template_machine_steps.proofs.Knowing.{counted_known}
use Rattle.template_machine_steps.proofs.Sparing.{items_spare}
use Rattle.template_machine_steps.proofs.Stepping.{refusal_out}
use Rattle.template_machine_steps.proofs.Gathering.{counted_out, many_refused, taken_as}
use Rattle.template_machine_steps.proofs.containers.unpack_lists.Goals as goal

pub returns-in_err-lists : goal.returns-in_err-lists
returns-in_err-lists g c program limit mode w known =
    many_refused (ruled program limit mode) (codes.unpack_lists c.args.count) _ w _ _ _ _ _ c.args.count (world_stays w)
    (λ lacks next before place. ap (λ t. on_taken t (λ vs rest. asks (spread vs) (on_all (λ items. next (suc place) (counted items ∷ rest))))) lacks) c.in_err-lists.ensures.refused c.from_residual.ensures.1

pub returns-in_err-items : goal.returns-in_err-items
returns-in_err-items g c program limit mode w known =
    refusal_out (ruled program limit mode) (codes.unpack_lists c.args.count) _ w _ _ _ _ _
    (λ x us. behind_it x (counted us ∷ operands_in c.take_many.new.self))
    (items_of_each (g.R.Records.known c.args.records.now) c.as_slice.result.now) refl
    (λ before x at around. counted_known (ruled program limit mode) before x w _ known around c.args.count _ _
    (taken_as c.args.count x.operands _ _ _ (ap (λ o. taken c.args.count o []) at ∙ c.in_ok-lists.ensures.taken) c.as_slice.ensures.value))
    (items_spare (g.R.Records.known c.args.records.now) c.as_slice.result.now) c.in_err-items.ensures c.from_residual-in_err-items.ensures.1

pub returns : goal.returns
returns g c program limit mode w known =
    counted_out (ruled program limit mode) c.args.count _ w _ _ (operands_in c.take_many.new.self) c.as_slice.result.now c.in_ok-items.items.items
    (g.R.Records.known c.args.records.now) known (taken_as c.args.count (operands_in c.args.operands.now) _ _ _ c.in_ok-lists.ensures.taken c.as_slice.ensures.value) c.in_ok-items.ensures
    c.push_run.ensures.pushed c.push_run.ensures.refused
