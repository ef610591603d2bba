-- The items that were picked are the slice, which nests no deeper than the list.
use Rattle.std.proofs.Common.{◌≡◌, ◌∙◌, [], ◌∷◌, ◌++◌, ℕ, ℤ, List, Option, length, subst, sym, arith, rules, to_z, of_z}
use Rattle.std.specs.Int.{w128}
use Rattle.std.specs.Int.RustNames.{FitsSigned}
use Rattle.std.proofs.lemmas.Int.{to_z-of_z}
use Rattle.template_values_model.specs.Gives.{Gives}
use Rattle.template_values_model.specs.Val.{Val}
use Rattle.template_values_operators.specs.Kinds.{list_made}
use Rattle.template_values_operators.specs.Slices.{picked, sliced, start_place, step_count, stop_place}
use Rattle.template_values_items.proofs.Shallow.{sliced_tells}
use Rattle.template_values_items.proofs.Steps.{picked_next}
use Rattle.template_values_items.proofs.slices.slice_items.Goals as goal

all_picked : (xs : List Val) (start stop : Option ℤ) (step first by : ℤ) (round count : ℕ) (items : List Val)
    → items ≡ picked xs first by round → round ≡ count → first ≡ start_place start step (length xs) → by ≡ step
    → count ≡ step_count (start_place start step (length xs)) (stop_place stop step (length xs)) step
    → items ≡ sliced start stop step xs
all_picked xs start stop step first by round count items is end at same n = is ∙ (λ i. picked xs (at i) (same i) ((end ∙ n) i))

pub loop-round-preserved : goal.loop-round-preserved
loop-round-preserved c =
    let next = picked_next c.args.items.now c.picked_places-places.result.start c.picked_places-places.result.step
    c.loop-round.round c.pick-item.result.now c.pick-item.ensures in
    c.in_ok-push.ensures.items ∙ (λ i. c.loop-round.invariant i ++ c.in_ok-copy.ensures.same i ∷ []) ∙ sym next

pub returns-clause-gives : goal.returns-clause-gives
returns-clause-gives c =
    let end : c.loop-round.round ≡ c.picked_places-places.result.count = omega arith in
    let fits : FitsSigned w128 c.args.step = search rules in
    let own : to_z w128 (of_z w128 c.args.step) ≡ c.args.step = to_z-of_z w128 c.args.step fits in
    let passed : c.loop-round.slice.items ≡ sliced c.args.start c.args.stop (to_z w128 (of_z w128 c.args.step)) c.args.items.now =
    all_picked c.args.items.now c.args.start c.args.stop (to_z w128 (of_z w128 c.args.step)) _ _ _ _ _ c.loop-round.invariant end
    c.picked_places-places.ensures.start c.picked_places-places.ensures.step c.picked_places-places.ensures.count in
    let all : c.loop-round.slice.items ≡ sliced c.args.start c.args.stop c.args.step c.args.items.now =
    subst (λ z. c.loop-round.slice.items ≡ sliced c.args.start c.args.stop z c.args.items.now) own passed in
    subst (λ (vs : List Val). Gives c.list_made.result (list_made vs)) all c.list_made.ensures

pub returns-clause-refused : goal.returns-clause-refused
returns-clause-refused c = sliced_tells c.args.start c.args.stop c.args.step c.args.items.now _ c.requires.shallow

pub returns-in_err-slice-clause-refused : goal.returns-in_err-slice-clause-refused
returns-in_err-slice-clause-refused c = sliced_tells c.args.start c.args.stop c.args.step c.args.items.now _ c.requires.shallow

pub returns-in_err-copy-clause-refused : goal.returns-in_err-copy-clause-refused
returns-in_err-copy-clause-refused c = sliced_tells c.args.start c.args.stop c.args.step c.args.items.now _ c.requires.shallow

pub returns-in_err-push-clause-refused : goal.returns-in_err-push-clause-refused
returns-in_err-push-clause-refused c = sliced_tells c.args.start c.args.stop c.args.step c.args.items.now _ c.requires.shallow
