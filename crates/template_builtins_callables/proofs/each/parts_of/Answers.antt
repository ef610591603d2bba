use Rattle.std.proofs.Common.{◌∙◌, option_copied}
use Rattle.std.proofs.lemmas.Result.{err_from_is_err_and}
use Rattle.template_values_model.specs.Val.{Val}
use Rattle.template_callables.specs.Views.{seen_in}
use Rattle.template_builtins_paths.specs.Paths.{part_of}
use Rattle.template_builtins_paths.proofs.Each.{each_none, each_goes, each_fails, each_ends}
use Rattle.template_builtins_callables.proofs.each.parts_of.Goals as goal

pub loop-item-init : goal.loop-item-init
loop-item-init c =
    let f = λ (item : Val). part_of (seen_in c.args.view.now) item c.args.path.now (option_copied c.args.default) in
    rw c.in_ok-parts.ensures.items (each_none f c.args.items.now)

pub loop-item-preserved : goal.loop-item-preserved
loop-item-preserved c =
    let f = λ (item : Val). part_of (seen_in c.args.view.now) item c.args.path.now (option_copied c.args.default) in
    rw c.in_ok-push.ensures.items
    (c.loop-item.invariant ∙ each_goes f c.args.items.now c.loop-item.item-index c.item-item.result c.in_ok-part_of.field-0 c.loop-item.parts.items c.loop-item-test.true c.item-item.is c.in_ok-part_of.ensures)

pub returns-in_err-part_of : goal.returns-in_err-part_of
returns-in_err-part_of c =
    let f = λ (item : Val). part_of (seen_in c.args.view.now) item c.args.path.now (option_copied c.args.default) in
    let p = err_from_is_err_and c.from_residual-in_err-part_of.result c.from_residual-in_err-part_of.ensures.1 in
    rw (c.loop-item.invariant, p.1, p.2)
    (each_fails f c.args.items.now c.loop-item.item-index c.item-item.result c.loop-item.parts.items _ c.loop-item-test.true c.item-item.is c.in_err-part_of.ensures)

pub returns : goal.returns
returns c =
    let f = λ (item : Val). part_of (seen_in c.args.view.now) item c.args.path.now (option_copied c.args.default) in
    c.loop-item.invariant ∙ each_ends f c.args.items.now c.loop-item.item-index c.loop-item.parts.items c.loop-item-test.false
