use Rattle.std.proofs.Common.{arith, refl}
use Rattle.template_values_core.proofs.Deep.{items_deep-vals_depth}
use Rattle.template_values_core.proofs.order.items.Goals as goal

pub returns : goal.returns
returns c = rw (c.as_slice.ensures.value, c.as_ref.ensures) (refl, items_deep-vals_depth c.args.items.now.value.items, omega arith)
