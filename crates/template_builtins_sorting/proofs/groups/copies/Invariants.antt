use Rattle.std.proofs.Common.{◌≡◌, take}
use Rattle.template_builtins_sorting.proofs.groups.copies.Given as goal

abbrev pub invariant-loop-item : goal.invariant-loop-item
invariant-loop-item l = l.copies.items ≡ take l.item-index l.items
