use Rattle.template_compiler_code.specs.Code as codes
use Rattle.template_machine_meaning.specs.Namespaces.{with_attribute}
use Rattle.template_machine_meaning.proofs.RunsKept.{world_stays}
use Rattle.template_machine_operands.specs.Operands.{operands_in}
use Rattle.template_machine_acts.proofs.Framing.{set_attribute_acts}
use Rattle.template_machine_steps.specs.Performs.{spot}
use Rattle.template_machine_steps.proofs.Stepping.{lost_two}
use Rattle.template_machine_perform.proofs.Scoping.{attribute_spares, became_out}
use Rattle.template_machine_perform.proofs.attributes.set_attr.Goals as goal

pub returns-in_err-value : goal.returns-in_err-value
returns-in_err-value c s =
    lost_two s (codes.set_attr c.args.name.now) _ c.args.state.now _ _ _ _ _ (world_stays c.args.state.now) tt
    c.in_err-value.ensures.none c.in_err-value.ensures.kind c.from_residual.ensures.1

pub returns : goal.returns
returns c s =
    became_out s (codes.set_attr c.args.name.now) _ c.args.state.now _ _ _
    (with_attribute c.args.state.now c.args.name.now c.in_ok-value.value c.in_ok-value.holder)
    (λ before place left taken. set_attribute_acts s before (spot place (operands_in c.args.operands.now) c.args.state.now left taken) c.args.name.now
    c.in_ok-value.value c.in_ok-value.holder _ c.in_ok-value.ensures.taken)
    (attribute_spares c.args.state.now c.args.name.now c.in_ok-value.value c.in_ok-value.holder) c.set_attribute.ensures
