use Rattle.template_values_core.specs.Order.{val_total}
use Rattle.template_values_core.proofs.OrderLemmas.{kinds_first, within_kinds, alike}
use Rattle.template_values_core.proofs.laws.order_laws.Goals as goal

pub returns : goal.returns
returns c = record { total = val_total; kinds = kinds_first; within = within_kinds; alike = alike }
