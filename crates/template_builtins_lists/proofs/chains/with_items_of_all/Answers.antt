use Rattle.std.proofs.Common.{◌∙◌}
use Rattle.std.proofs.lemmas.Result.{err_from_is_err_and}
use Rattle.template_callables.specs.Views.{seen_in}
use Rattle.template_builtins_lists.proofs.Chaining.{chain_goes, chain_fails, chain_ends}
use Rattle.template_builtins_lists.proofs.chains.with_items_of_all.Goals as goal

pub loop-value-preserved : goal.loop-value-preserved
loop-value-preserved c =
    c.loop-value.invariant
    ∙ chain_goes (seen_in c.args.view.now) c.args.values.now c.loop-value.value-index c.value-item.result c.loop-value.whole.items c.in_ok-whole.whole.items c.loop-value-test.true c.value-item.is c.in_ok-whole.ensures

pub returns-in_err-whole : goal.returns-in_err-whole
returns-in_err-whole c =
    let p = err_from_is_err_and c.from_residual.result c.from_residual.ensures.1 in
    rw (c.loop-value.invariant, p.1, p.2)
    (chain_fails (seen_in c.args.view.now) c.args.values.now c.loop-value.value-index c.value-item.result c.loop-value.whole.items _ c.loop-value-test.true c.value-item.is c.in_err-whole.ensures)

pub returns : goal.returns
returns c =
    c.loop-value.invariant
    ∙ chain_ends (seen_in c.args.view.now) c.args.values.now c.loop-value.value-index c.loop-value.whole.items c.loop-value-test.false
