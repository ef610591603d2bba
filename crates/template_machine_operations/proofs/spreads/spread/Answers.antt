use Rattle.std.proofs.Common.{◌≡◌, ◌+◌, List, ◌∷◌, Ok, ap, sym, subst, drop, add-one, ◌∙◌}
use Rattle.std.proofs.Math.Seq.{drop-cons}
use Rattle.template_values_model.specs.Val.{Val}
use Rattle.template_values_operators.specs.Iterated.{iterated}
use Rattle.template_machine_meaning.specs.Replies.{kinded}
use Rattle.template_machine_meaning.specs.Spreads.{items_of_each, one_behind}
use Rattle.template_machine_operations.proofs.Spreading.{items_refused, next_put, none_put}
use Rattle.template_machine_operations.proofs.spreads.spread.Goals as goal

pub loop-value-init : goal.loop-value-init
loop-value-init g c =
    let all = items_of_each (g.R.Records.known c.args.records.now) c.args.values.now in
    ap (λ (us : List Val). one_behind (Ok us) all) c.new-items.ensures.items ∙ none_put all

pub loop-value-preserved : goal.loop-value-preserved
loop-value-preserved g c =
    let known = g.R.Records.known c.args.records.now in
    let values = c.args.values.now in
    let index = c.loop-value.value-index in
    let here = c.value-item.result in
    let opened : drop index values ≡ here ∷ drop (index + 1) values =
    subst (λ v. drop index values ≡ v ∷ drop (index + 1) values) (sym c.value-item.is) (rw add-one (drop-cons values index here c.loop-value-test.true)) in
    next_put c.loop-value.items.items _ (kinded (iterated known here)) (items_of_each known (drop (index + 1) values)) (items_of_each known values) c.in_ok-push_items.ensures
    (ap (λ (vs : List Val). one_behind (Ok c.loop-value.items.items) (items_of_each known vs)) (sym opened) ∙ c.loop-value.invariant)

pub returns-in_err-push_items : goal.returns-in_err-push_items
returns-in_err-push_items g c =
    let known = g.R.Records.known c.args.records.now in
    let values = c.args.values.now in
    let index = c.loop-value.value-index in
    let here = c.value-item.result in
    let opened : drop index values ≡ here ∷ drop (index + 1) values =
    subst (λ v. drop index values ≡ v ∷ drop (index + 1) values) (sym c.value-item.is) (rw add-one (drop-cons values index here c.loop-value-test.true)) in
    items_refused c.from_residual.result _ c.loop-value.items.items (kinded (iterated known here)) (items_of_each known (drop (index + 1) values)) (items_of_each known values)
    (ap (λ (vs : List Val). one_behind (Ok c.loop-value.items.items) (items_of_each known vs)) (sym opened) ∙ c.loop-value.invariant)
    c.in_err-push_items.ensures c.from_residual.ensures.1
