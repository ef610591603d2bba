use Rattle.std.proofs.Common.{◌≡◌, drop}
use Rattle.template_builtins_numbers.proofs.Digits.{value_after}
use Rattle.template_builtins_decimals.proofs.numerals.spaced_value.Given as goal

-- the total and the digits that are left come to the whole number
abbrev pub invariant-loop-byte : goal.invariant-loop-byte
invariant-loop-byte l = value_after l.base 0 l.digits ≡ value_after l.base l.total (drop l.byte-index l.digits)
