use Rattle.std.proofs.Common.{◌≡◌, ℤ, pos, ◌∙◌, subst, rules, to_z, of_z, unwrap_or}
use Rattle.std.specs.Int.{w128}
use Rattle.std.specs.Int.RustNames.{FitsSigned}
use Rattle.std.proofs.lemmas.Int.{to_z-of_z}
use Rattle.template_values_model.specs.Gives.{Gives, TellsFault}
use Rattle.template_values_operators.specs.Slices.{bound_of, slice_by, slice_of, slice_with}
use Rattle.template_values_items.proofs.Bounds.{taken}
use Rattle.template_values_items.proofs.slices.slice.Goals as goal

pub returns-clause-gives : goal.returns-clause-gives
returns-clause-gives c =
    let bounds : slice_of c.args.value.now c.args.start.now c.args.stop.now c.args.step.now
    ≡ slice_with c.args.value.now c.in_ok-start.start c.in_ok-stop.stop (unwrap_or c.in_ok-step.step (pos 1)) =
    λ i. slice_by c.args.value.now (taken (bound_of c.args.start.now) _ c.in_ok-start.ensures i)
    (taken (bound_of c.args.stop.now) _ c.in_ok-stop.ensures i) (taken (bound_of c.args.step.now) _ c.in_ok-step.ensures i) in
    let fits : FitsSigned w128 c.unwrap_or.result = search rules in
    let step : to_z w128 (of_z w128 c.unwrap_or.result) ≡ unwrap_or c.in_ok-step.step (pos 1) = to_z-of_z w128 c.unwrap_or.result fits
    ∙ c.unwrap_or.ensures in
    let P : ℤ → Type 0 = λ z. Gives c.slice_with.result (slice_with c.args.value.now c.in_ok-start.start c.in_ok-stop.stop z) in
    rw bounds (subst P step c.slice_with.ensures.gives)

pub returns-clause-refused : goal.returns-clause-refused
returns-clause-refused c =
    let bounds : slice_of c.args.value.now c.args.start.now c.args.stop.now c.args.step.now
    ≡ slice_with c.args.value.now c.in_ok-start.start c.in_ok-stop.stop (unwrap_or c.in_ok-step.step (pos 1)) =
    λ i. slice_by c.args.value.now (taken (bound_of c.args.start.now) _ c.in_ok-start.ensures i)
    (taken (bound_of c.args.stop.now) _ c.in_ok-stop.ensures i) (taken (bound_of c.args.step.now) _ c.in_ok-step.ensures i) in
    let fits : FitsSigned w128 c.unwrap_or.result = search rules in
    let step : to_z w128 (of_z w128 c.unwrap_or.result) ≡ unwrap_or c.in_ok-step.step (pos 1) = to_z-of_z w128 c.unwrap_or.result fits
    ∙ c.unwrap_or.ensures in
    let P : ℤ → Type 0 = λ z. TellsFault c.slice_with.result (slice_with c.args.value.now c.in_ok-start.start c.in_ok-stop.stop z) in
    rw bounds (subst P step c.slice_with.ensures.refused)
