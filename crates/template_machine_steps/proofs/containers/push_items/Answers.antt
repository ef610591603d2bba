use Rattle.std.proofs.Common.{◌≡◌, suc, ◌+◌, ◌-◌, Some, slice_get, subst, arith}
use Rattle.template_machine_operands.specs.Operands.{operands_in}
use Rattle.template_machine_steps.proofs.Gathering.{item_on}
use Rattle.template_machine_steps.proofs.containers.push_items.Goals as goal

pub loop-passed-preserved : goal.loop-passed-preserved
loop-passed-preserved c =
    let place = c.len-count.result - (c.loop-passed.passed + 1) in
    let at : c.len-count.result - 1 - c.loop-passed.passed ≡ place = omega arith in
    let next : suc place ≡ c.len-count.result - c.loop-passed.passed = omega (arith, c.loop-passed-test.true) in
    item_on c.args.items.now place (c.len-count.result - c.loop-passed.passed) c.in-Some.item.now c.in_ok-item-in-Some.item _ (operands_in c.loop-passed.operands) _
    (subst (λ k. Some c.in-Some.item.now ≡ slice_get c.args.items.now k) at c.in-Some.ensures) next c.in_ok-item-in-Some.ensures.same c.loop-passed.invariant c.in_ok-push.ensures.pushed
