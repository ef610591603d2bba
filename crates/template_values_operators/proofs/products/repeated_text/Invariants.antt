use Rattle.std.proofs.Common.{◌≡◌, string_bytes}
use Rattle.template_values_operators.specs.Products.{repeated}
use Rattle.template_values_operators.proofs.products.repeated_text.Given as goal

abbrev pub invariant-loop-round : goal.invariant-loop-round
invariant-loop-round l = string_bytes l.repeated ≡ repeated l._round l.text
