use Rattle.std.proofs.Common.{◌∙◌}
use Rattle.std.specs.Option.{option_map}
use Rattle.std.proofs.lemmas.Result.{err_from_is_err_and}
use Rattle.template_callables.specs.Views.{seen_in}
use Rattle.template_builtins_callables.specs.Each.{answers}
use Rattle.template_builtins_callables.specs.Naming.{asked_of}
use Rattle.template_builtins_callables.proofs.Keeping.{kept_none, kept_goes, kept_fails, kept_ends}
use Rattle.template_builtins_callables.proofs.selecting.kept.Goals as goal

pub loop-item-init : goal.loop-item-init
loop-item-init c =
    let f = answers c.args.wanted (seen_in c.args.view.now) (option_map asked_of c.args.test) in
    rw c.new-found.ensures.items (kept_none f c.args.items.now)

pub loop-item-preserved : goal.loop-item-preserved
loop-item-preserved c =
    let f = answers c.args.wanted (seen_in c.args.view.now) (option_map asked_of c.args.test) in
    rw c.in_ok-push_if.ensures.pushed
    (c.loop-item.invariant ∙ kept_goes f c.args.items.now c.loop-item.item-index c.item-item.result c.in_ok-holds.holds c.loop-item.found.items c.loop-item-test.true c.item-item.is c.in_ok-holds.ensures)

pub returns-in_err-holds : goal.returns-in_err-holds
returns-in_err-holds c =
    let f = answers c.args.wanted (seen_in c.args.view.now) (option_map asked_of c.args.test) in
    let p = err_from_is_err_and c.from_residual.result c.from_residual.ensures.1 in
    rw (c.loop-item.invariant, p.1, p.2)
    (kept_fails f c.args.items.now c.loop-item.item-index c.item-item.result c.loop-item.found.items _ c.loop-item-test.true c.item-item.is c.in_err-holds.ensures)

pub returns : goal.returns
returns c =
    let f = answers c.args.wanted (seen_in c.args.view.now) (option_map asked_of c.args.test) in
    c.loop-item.invariant ∙ kept_ends f c.args.items.now c.loop-item.item-index c.loop-item.found.items c.loop-item-test.false
