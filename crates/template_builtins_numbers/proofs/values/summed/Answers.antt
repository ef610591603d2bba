use Rattle.std.proofs.Common.{option_copied, ◌∙◌}
use Rattle.std.proofs.lemmas.Result.{err_from_is_err_and}
use Rattle.template_callables.specs.Views.{seen_in}
use Rattle.template_builtins_numbers.proofs.Summing.{summed_goes, summed_lacks, summed_fails, summed_ends}
use Rattle.template_builtins_numbers.proofs.values.summed.Goals as goal

pub loop-item-preserved : goal.loop-item-preserved
loop-item-preserved c =
    c.loop-item.invariant
    ∙ summed_goes (seen_in c.args.view.now) (option_copied c.args.path) c.loop-item.total c.args.items.now c.loop-item.item-index c.item-item.result c.in_ok-part.part c.in_ok-total.total c.loop-item-test.true c.item-item.is c.in_ok-part.ensures c.in_ok-total.ensures

pub returns-in_err-part : goal.returns-in_err-part
returns-in_err-part c =
    let p = err_from_is_err_and c.from_residual.result c.from_residual.ensures.1 in
    rw (c.loop-item.invariant, p.1, p.2)
    (summed_lacks (seen_in c.args.view.now) (option_copied c.args.path) c.loop-item.total c.args.items.now c.loop-item.item-index c.item-item.result _ c.loop-item-test.true c.item-item.is c.in_err-part.ensures)

pub returns-in_err-total : goal.returns-in_err-total
returns-in_err-total c =
    let p = err_from_is_err_and c.from_residual-in_err-total.result c.from_residual-in_err-total.ensures.1 in
    rw (c.loop-item.invariant, p.1, p.2)
    (summed_fails (seen_in c.args.view.now) (option_copied c.args.path) c.loop-item.total c.args.items.now c.loop-item.item-index c.item-item.result c.in_ok-part.part _ c.loop-item-test.true c.item-item.is c.in_ok-part.ensures c.in_err-total.ensures)

pub returns : goal.returns
returns c =
    c.loop-item.invariant
    ∙ summed_ends (seen_in c.args.view.now) (option_copied c.args.path) c.loop-item.total c.args.items.now c.loop-item.item-index c.loop-item-test.false
