use Rattle.std.proofs.Common.{inr, ◌∷◌, refl, sym, ap, ◌∙◌}
use Rattle.template_values_core.specs.Answers.{text_in}
use Rattle.template_compiler_code.specs.Code as codes
use Rattle.template_machine_meaning.specs.Surroundings.{escape_named}
use Rattle.template_machine_meaning.proofs.RunsKept.{world_stays}
use Rattle.template_machine_operands.specs.Operands.{operands_in}
use Rattle.template_machine_operations.specs.Answers.{answered}
use Rattle.template_machine_acts.specs.Comings.{behind_it, surrounded}
use Rattle.template_machine_acts.proofs.Framing.{open_escape_acts}
use Rattle.template_machine_steps.specs.Performs.{spot}
use Rattle.template_machine_steps.proofs.Stepping.{lost_one, given_acts}
use Rattle.template_machine_perform.proofs.Lifting.{unchanged_keeps}
use Rattle.template_machine_perform.proofs.Scoping.{escape_spares, changed_out, refusal_at}
use Rattle.template_machine_perform.proofs.escapes.push_auto_escape.Goals as goal

pub returns-in_err-value : goal.returns-in_err-value
returns-in_err-value c s =
    lost_one s codes.push_auto_escape _ c.args.state.now _ _ _ _ _ (world_stays c.args.state.now) tt
    c.in_err-value.ensures.none c.in_err-value.ensures.kind c.from_residual.ensures.1

pub returns-in_err-rule : goal.returns-in_err-rule
returns-in_err-rule c s =
    refusal_at s codes.push_auto_escape _ c.args.state.now _ _ _ _ _
    (λ place left taken rule. behind_it (surrounded (spot place (operands_in c.args.operands.now) c.args.state.now left taken) (record c.args.state.now { escape = rule; saved = c.args.state.now.escape ∷ c.args.state.now.saved })) (operands_in c.take.new.self))
    (escape_named c.args.state.now.first c.in_ok-value.value (text_in c.in_ok-value.value)) refl
    (λ before place left taken. open_escape_acts s before (spot place (operands_in c.args.operands.now) c.args.state.now left taken) c.in_ok-value.value _
    c.in_ok-value.ensures.taken)
    (escape_spares c.args.state.now.first c.in_ok-value.value (text_in c.in_ok-value.value))
    (inr (sym (c.in_err-rule.ensures ∙ ap (λ first. answered (escape_named first c.in_ok-value.value (text_in c.in_ok-value.value))) c.first_escape.ensures))) c.from_residual-in_err-rule.ensures.1

pub returns : goal.returns
returns c s =
    changed_out s codes.push_auto_escape _ c.args.state.now _ _ _ _ (record c.args.state.now { escape = c.in_ok-rule.rule; saved = c.args.state.now.escape ∷ c.args.state.now.saved })
    (unchanged_keeps c.open_escape.result c.args.state.now c.open_escape.new.self c.open_escape.ensures.unchanged)
    (λ before place left taken. given_acts s before codes.push_auto_escape (spot place (operands_in c.args.operands.now) c.args.state.now left taken) (λ rule. behind_it (surrounded (spot place (operands_in c.args.operands.now) c.args.state.now left taken) (record c.args.state.now { escape = rule; saved = c.args.state.now.escape ∷ c.args.state.now.saved })) (operands_in c.take.new.self)) (escape_named c.args.state.now.first c.in_ok-value.value (text_in c.in_ok-value.value)) _ c.in_ok-rule.rule (open_escape_acts s before (spot place (operands_in c.args.operands.now) c.args.state.now left taken) c.in_ok-value.value _ c.in_ok-value.ensures.taken) (c.in_ok-rule.ensures ∙ ap (λ first. answered (escape_named first c.in_ok-value.value (text_in c.in_ok-value.value))) c.first_escape.ensures) refl)
    c.open_escape.ensures.opened c.open_escape.ensures.refused
