-- A decimal as it is read.
use Rattle.template_builtins_numbers.specs.Decimals.{Decimal}
use Rattle.template_builtins_numbers.specs.declared.decimals.Decimal as declared

abbrev pub seen : declared.Decimal → Decimal
seen d = record { negative = d.negative; whole = d.whole.now; fraction = d.fraction.now; exponent = d.exponent }
