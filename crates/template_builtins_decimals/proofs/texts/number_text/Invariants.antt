use Rattle.std.proofs.Common.{◌≡◌, ◌-◌, ◌<◌, drop, length}
use Rattle.std.specs.Str.Parse.{digits_value}
use Rattle.template_builtins_decimals.proofs.texts.number_text.Given as goal

-- what is left writes the same number
abbrev pub invariant-front : goal.invariant-front
invariant-front l = record {
  within : l.start < length l.digits;
  value : digits_value 10 (drop l.start l.digits) ≡ digits_value 10 l.digits;
}

abbrev pub decreases-front : goal.decreases-front
decreases-front l = length l.digits - l.start
