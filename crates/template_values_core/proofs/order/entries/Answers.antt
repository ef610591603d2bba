use Rattle.std.proofs.Common.{arith, refl}
use Rattle.template_values_core.proofs.Deep.{entries_deep-pairs_depth}
use Rattle.template_values_core.proofs.order.entries.Goals as goal

pub returns : goal.returns
returns c = rw (c.as_slice.ensures.value, c.as_ref.ensures) (refl, omega arith, entries_deep-pairs_depth c.args.entries.now.value.items)
