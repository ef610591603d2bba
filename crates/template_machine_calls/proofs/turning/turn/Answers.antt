use Rattle.std.proofs.Common.{inl, ap, ◌∙◌}
use Rattle.template_machine_meaning.specs.Plans.{with_turning}
use Rattle.template_machine_calls.specs.Left.{turning_in, value_left}
use Rattle.template_machine_calls.specs.declared.reached.Turning.{Turning}
use Rattle.template_machine_calls.proofs.Chaining.{err_planned, planned_as}
use Rattle.template_machine_calls.proofs.Turned.{text_refused, text_worded, truth_refused, truth_turned}
use Rattle.template_machine_calls.proofs.turning.turn.Goals as goal

pub returns-in_err-truth_of-in-Truth : goal.returns-in_err-truth_of-in-Truth
returns-in_err-truth_of-in-Truth c =
    let w = c.args.state.now in
    planned_as value_left (with_turning (turning_in c.args.turning) (value_left c.args.value.now w)) _ _ w
    (ap (λ (t : Turning). with_turning (turning_in t) (value_left c.args.value.now w)) c.in-Truth.is)
    (err_planned value_left _ _ _ w (truth_refused w c.args.value.now _ c.in_err-truth_of-in-Truth.ensures) c.from_residual.ensures.1)

pub returns-in_ok-truth_of-in-Truth : goal.returns-in_ok-truth_of-in-Truth
returns-in_ok-truth_of-in-Truth c =
    let w = c.args.state.now in
    ap (λ (t : Turning). with_turning (turning_in t) (value_left c.args.value.now w)) c.in-Truth.is
    ∙ truth_turned w c.args.value.now c.in_ok-truth_of-in-Truth.field-0 c.from_bool.result c.in_ok-truth_of-in-Truth.ensures c.from_bool.ensures

pub returns-in_err-print_to-in-Text : goal.returns-in_err-print_to-in-Text
returns-in_err-print_to-in-Text c =
    let w = c.args.state.now in
    planned_as value_left (with_turning (turning_in c.args.turning) (value_left c.args.value.now w)) _ _ w
    (ap (λ (t : Turning). with_turning (turning_in t) (value_left c.args.value.now w)) c.in-Text.is)
    (err_planned value_left _ _ _ w (text_refused w c.args.value.now _ _ _ c.new-text.ensures.bytes c.in_err-print_to-in-Text.ensures)
    c.from_residual-in_err-print_to-in-Text.ensures.1)

pub returns-in_err-worded-in-Text : goal.returns-in_err-worded-in-Text
returns-in_err-worded-in-Text c =
    err_planned value_left (with_turning (turning_in c.args.turning) (value_left c.args.value.now c.args.state.now)) _ _ c.args.state.now
    (inl c.in_err-worded-in-Text.ensures.refused) c.from_residual-in_err-worded-in-Text.ensures.1

pub returns-in_ok-worded-in-Text : goal.returns-in_ok-worded-in-Text
returns-in_ok-worded-in-Text c =
    let w = c.args.state.now in
    ap (λ (t : Turning). with_turning (turning_in t) (value_left c.args.value.now w)) c.in-Text.is
    ∙ text_worded w c.args.value.now _ _ _ c.auto_escape.result c.new-text.ensures.bytes c.in_ok-print_to-in-Text.ensures c.auto_escape.ensures c.in_ok-worded-in-Text.ensures.made
