-- A decimal as it is read.
use Rattle.std.specs.Str.Parse.{AllDigits}
use Rattle.template_builtins_numbers.specs.Decimals.{Decimal}
use Rattle.template_builtins_decimals.specs.declared.reading.Decimal as declared

abbrev pub seen : declared.Decimal → Decimal
seen d = record { negative = d.negative; whole = d.whole.now; fraction = d.fraction.now; exponent = d.exponent }

-- what stands before and behind its point are digits
abbrev pub HasDigits : declared.Decimal → Type 0
HasDigits d = AllDigits 10 d.whole.now × AllDigits 10 d.fraction.now
