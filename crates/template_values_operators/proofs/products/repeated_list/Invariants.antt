use Rattle.std.proofs.Common.{◌≡◌}
use Rattle.template_values_operators.specs.Products.{repeated}
use Rattle.template_values_operators.proofs.products.repeated_list.Given as goal

abbrev pub invariant-loop-round : goal.invariant-loop-round
invariant-loop-round l = l.repeated.items ≡ repeated l._round l.items
