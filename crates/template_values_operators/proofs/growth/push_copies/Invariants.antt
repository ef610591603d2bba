use Rattle.std.proofs.Common.{◌≡◌, ◌++◌, take}
use Rattle.template_values_operators.proofs.growth.push_copies.Given as goal

abbrev pub invariant-loop-item : goal.invariant-loop-item
invariant-loop-item l = l.items.items ≡ l.initial.items.items ++ take l.item-index l.more
