use Rattle.std.proofs.Common.{◌≡◌, ◌+◌, ◌-◌, ◌<◌, ◌^◌, get_or, length}
use Rattle.std.specs.Str.Parse.{AllDigits, digits_value}
use Rattle.template_builtins_decimals.proofs.carrying.increment.Given as goal

-- one is still to be added at the place
abbrev pub invariant-carried : goal.invariant-carried
invariant-carried l = record {
  within : l.place < length l.digits;
  digits : AllDigits 10 l.digits;
  zero : get_or l.digits 0 0 ≡ 48;
  value : digits_value 10 l.digits + 10 ^ (length l.digits - 1 - l.place) ≡ digits_value 10 l.initial.digits + 1;
}

abbrev pub decreases-carried : goal.decreases-carried
decreases-carried l = l.place
