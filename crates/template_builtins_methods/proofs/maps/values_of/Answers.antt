use Rattle.template_builtins_methods.proofs.Valuing.{values_go, values_end}
use Rattle.template_builtins_methods.proofs.maps.values_of.Goals as goal

pub loop-entry-init : goal.loop-entry-init
loop-entry-init c = rw c.in_ok-values.ensures.items

pub loop-entry-preserved : goal.loop-entry-preserved
loop-entry-preserved c =
    rw (c.in_ok-push.ensures.items, c.in_ok-copy.ensures.same)
    (values_go c.args.entries.now c.loop-entry.entry-index c.entry-item.result c.loop-entry.values.items _ c.loop-entry-test.true c.entry-item.is c.loop-entry.invariant)

pub returns-clause-made : goal.returns-clause-made
returns-clause-made c =
    values_end c.args.entries.now c.loop-entry.entry-index c.loop-entry.values.items _ c.loop-entry-test.false c.loop-entry.invariant
