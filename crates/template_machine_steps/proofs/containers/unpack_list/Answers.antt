use Rattle.std.proofs.Common.{map, ◌++◌, refl, ◌∙◌}
use Rattle.template_compiler_code.specs.Code as codes
use Rattle.template_compiler_code.specs.Code.{single}
use Rattle.template_machine_meaning.specs.Surroundings.{unpacked, unpacked_into}
use Rattle.template_machine_meaning.proofs.RunsKept.{world_stays}
use Rattle.template_machine_acts.specs.Comings.{behind_it}
use Rattle.template_machine_operands.specs.Operands.{operands_in}
use Rattle.template_machine_acts.proofs.Unpacking.{unpack_acts}
use Rattle.template_machine_steps.specs.Performs.{ruled}
use Rattle.template_machine_steps.proofs.Sparing.{unpacked_spares}
use Rattle.template_machine_steps.proofs.Stepping.{lost_one, refusal_out}
use Rattle.template_machine_steps.proofs.Gathering.{unpacked_out}
use Rattle.template_machine_steps.proofs.containers.unpack_list.Goals as goal

pub returns-in_err-value : goal.returns-in_err-value
returns-in_err-value c program limit mode w =
    lost_one _ (codes.unpack_list c.args.count) _ w _ _ _ _ _ (world_stays w) tt c.in_err-value.ensures.none c.in_err-value.ensures.kind c.from_residual.ensures.1

pub returns-in_err-items : goal.returns-in_err-items
returns-in_err-items c program limit mode w =
    refusal_out (ruled program limit mode) (codes.unpack_list c.args.count) _ w _ _ _ _ _
    (λ x us. behind_it x (map single us ++ operands_in c.take.new.self))
    (unpacked_into c.args.count (unpacked c.in_ok-value.value)) refl
    (λ before x at around. unpack_acts (ruled program limit mode) before x c.args.count _ _ (at ∙ c.in_ok-value.ensures.taken)) (unpacked_spares c.args.count (unpacked c.in_ok-value.value)) c.in_err-items.ensures c.from_residual-in_err-items.ensures.1

pub returns : goal.returns
returns c program limit mode w =
    unpacked_out (ruled program limit mode) c.args.count _ w _ _ c.in_ok-value.value (operands_in c.take.new.self) c.in_ok-items.items
    c.in_ok-value.ensures.taken c.in_ok-items.ensures c.push_items.ensures.pushed c.push_items.ensures.refused
