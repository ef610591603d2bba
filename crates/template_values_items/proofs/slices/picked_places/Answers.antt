use Rattle.std.proofs.Common.{◌≡◌, ℕ, ◌<◌, ◌∙◌, subst, rules, to_z, of_z, unsigned_abs}
use Rattle.std.specs.Int.{w128}
use Rattle.std.specs.Int.RustNames.{FitsSigned}
use Rattle.std.proofs.lemmas.Int.{to_z-of_z}
use Rattle.template_values_operators.specs.Slices.{distance, steps_within, step_count}
use Rattle.template_values_items.proofs.Steps.{within}
use Rattle.template_values_items.proofs.slices.picked_places.Goals as goal

pub returns-clause-within : goal.returns-clause-within
returns-clause-within c =
    let start_fits : FitsSigned w128 c.start_place-start.result = search rules in
    let stop_fits : FitsSigned w128 c.stop_place-stop.result = search rules in
    let distance_fits : FitsSigned w128 c.distance-distance.result = search rules in
    let step_fits : FitsSigned w128 c.args.step = c.ranges.step in
    let far : to_z w128 (of_z w128 c.distance-distance.result) ≡ distance c.start_place-start.result c.stop_place-stop.result c.args.step =
    to_z-of_z w128 _ distance_fits ∙ (simp to_z-of_z at c.distance-distance.ensures.is) in
    let apart : c.unsigned_abs.result ≡ unsigned_abs c.args.step = simp to_z-of_z at c.unsigned_abs.ensures.value in
    let count : c.steps_within.result ≡ step_count c.start_place-start.result c.stop_place-stop.result c.args.step =
    c.steps_within.ensures ∙ (λ i. steps_within (far i) (apart i)) in
    λ k before. simp to_z-of_z
    (within c.start_place-start.result c.stop_place-stop.result c.args.step c.args.length k c.requires (
      simp to_z-of_z at c.start_place-start.ensures.low,
      simp to_z-of_z at c.start_place-start.ensures.high,
      simp to_z-of_z at c.stop_place-stop.ensures.low,
      simp to_z-of_z at c.stop_place-stop.ensures.high,
    )
    (subst (λ (n : ℕ). k < n) count before))
