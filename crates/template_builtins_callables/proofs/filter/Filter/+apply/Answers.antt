use Rattle.std.proofs.Common.{◌≡◌, ◌∙◌, sym, List, Ok, Err}
use Rattle.std.proofs.lemmas.Result.{err_from_is_err_and}
use Rattle.template_values_model.specs.Val.{Val}
use Rattle.template_callables.specs.Views.{seen_in}
use Rattle.template_builtins_arguments.specs.Answers.{Tells}
use Rattle.template_builtins_arguments.specs.Parts.{items_of}
use Rattle.template_builtins_paths.specs.Items.{each}
use Rattle.template_builtins_paths.proofs.Each.{each_none, each_goes, each_fails, each_ends}
use Rattle.template_builtins_callables.specs.Filtered.{filtered}
use Rattle.template_builtins_callables.proofs.Applied.{bare, without, by_items, few_fail, items_fail, name_fails, item_fails}
use Rattle.template_builtins_callables.proofs.filter.Filter.+apply.Goals as goal

pub returns-in_default : goal.returns-in_default
returns-in_default t c =
    rw (bare c.args.self (seen_in c.args.view.now) c.args.value.now c.args.arguments.now c.in_default.ensures.cases) c.apply_alone.ensures

pub returns-then-not-applies_other : goal.returns-then-not-applies_other
returns-then-not-applies_other t c =
    rw (without c.args.self (seen_in c.args.view.now) c.args.value.now c.args.arguments.now c.in-Some.name.now c.in-Some.rest.now c.in-Some.ensures.cases.0
    (sym c.applies_other.ensures ∙ c.if-not-applies_other.true))
    c.apply_alone-then-not-applies_other.ensures

pub returns-in_err-few : goal.returns-in_err-few
returns-in_err-few t c =
    let p = err_from_is_err_and c.from_residual.result c.from_residual.ensures.1 in
    rw (p.1, p.2)
    (few_fail c.args.self (seen_in c.args.view.now) c.args.value.now c.args.arguments.now c.in-Some.name.now c.in-Some.rest.now c.in-Some.ensures.cases.0
    (sym c.applies_other.ensures ∙ c.if-not-applies_other.false) c.in_err-few.field-0.0 c.in_err-few.ensures)

pub returns-in_err-items : goal.returns-in_err-items
returns-in_err-items t c =
    let p = err_from_is_err_and c.from_residual-in_err-items.result c.from_residual-in_err-items.ensures.1 in
    rw (p.1, p.2)
    (items_fail c.args.self (seen_in c.args.view.now) c.args.value.now c.args.arguments.now c.in-Some.name.now c.in-Some.rest.now c.in-Some.ensures.cases.0
    (sym c.applies_other.ensures ∙ c.if-not-applies_other.false) c.in_ok-few.field-0 c.in_err-items.field-0.0 c.in_ok-few.ensures c.in_err-items.ensures)

pub returns-in_err-other : goal.returns-in_err-other
returns-in_err-other t c =
    let p = err_from_is_err_and c.from_residual-in_err-other.result c.from_residual-in_err-other.ensures.1 in
    rw (p.1, p.2)
    (name_fails c.args.self (seen_in c.args.view.now) c.args.value.now c.args.arguments.now c.in-Some.name.now c.in-Some.rest.now c.in-Some.ensures.cases.0
    (sym c.applies_other.ensures ∙ c.if-not-applies_other.false) c.in_ok-items.items.items c.in_ok-few.field-0 c.in_err-other.field-0.0 c.in_ok-few.ensures
    c.in_ok-items.ensures c.in_err-other.ensures)

pub loop-item-init : goal.loop-item-init
loop-item-init t c =
    let f = λ (item : Val). filtered c.in_ok-other.other (seen_in c.args.view.now) item c.in-Some.rest.now in
    rw c.in_ok-made.ensures.items (each_none f c.deref-item-items.result.now)

pub returns-in_err-apply : goal.returns-in_err-apply
returns-in_err-apply t c =
    let f = λ (item : Val). filtered c.in_ok-other.other (seen_in c.args.view.now) item c.in-Some.rest.now in
    let items = c.deref-item-items.result.now in
    let kinds = c.in_err-apply.field-0.0 in
    let found : items_of (seen_in c.args.view.now) c.args.value.now ≡ Ok items = rw c.deref-item-items.ensures.value c.in_ok-items.ensures in
    let failed : Tells {T = List Val} (Err kinds) (each f items) =
    rw c.loop-item.invariant
    (each_fails f items c.loop-item.item-index c.item-item.result c.loop-item.made.items kinds c.loop-item-test.true c.item-item.is c.in_err-apply.ensures) in
    let p = err_from_is_err_and c.from_residual-in_err-apply.result c.from_residual-in_err-apply.ensures.1 in
    rw (p.1, p.2)
    (item_fails c.args.self (seen_in c.args.view.now) c.args.value.now c.args.arguments.now c.in-Some.name.now c.in-Some.rest.now c.in-Some.ensures.cases.0
    (sym c.applies_other.ensures ∙ c.if-not-applies_other.false) items c.in_ok-other.other c.in_ok-few.field-0 kinds c.in_ok-few.ensures found
    c.in_ok-other.ensures failed)

pub loop-item-preserved : goal.loop-item-preserved
loop-item-preserved t c =
    let f = λ (item : Val). filtered c.in_ok-other.other (seen_in c.args.view.now) item c.in-Some.rest.now in
    rw c.in_ok-push.ensures.items
    (c.loop-item.invariant ∙ each_goes f c.deref-item-items.result.now c.loop-item.item-index c.item-item.result c.in_ok-apply.field-0 c.loop-item.made.items
    c.loop-item-test.true c.item-item.is c.in_ok-apply.ensures)

pub returns : goal.returns
returns t c =
    let f = λ (item : Val). filtered c.in_ok-other.other (seen_in c.args.view.now) item c.in-Some.rest.now in
    let items = c.deref-item-items.result.now in
    let found : items_of (seen_in c.args.view.now) c.args.value.now ≡ Ok items = rw c.deref-item-items.ensures.value c.in_ok-items.ensures in
    let made : each f items ≡ Ok c.loop-item.made.items =
    c.loop-item.invariant ∙ each_ends f items c.loop-item.item-index c.loop-item.made.items c.loop-item-test.false in
    rw (
      by_items c.args.self (seen_in c.args.view.now) c.args.value.now c.args.arguments.now c.in-Some.name.now c.in-Some.rest.now c.in-Some.ensures.cases.0
          (sym c.applies_other.ensures ∙ c.if-not-applies_other.false) items c.in_ok-other.other c.in_ok-few.field-0 c.in_ok-few.ensures found c.in_ok-other.ensures,
      made,
    )
    c.list_of.ensures
