use Rattle.std.proofs.Common.{◌≡◌, ◌≤◌, ◌+◌, ◌^◌, drop}
use Rattle.template_builtins_decimals.specs.Sizes as sizes
use Rattle.template_builtins_decimals.proofs.sizes.greatest_unit.Given as goal

-- the unit so far and the letters that are left lead to the unit of them all
abbrev pub invariant-loop-letter : goal.invariant-loop-letter
invariant-loop-letter l = record {
  least : 1000 ≤ l.unit.amount;
  greatest : l.unit.amount ≤ 1024 ^ (l.letter-index + 1);
  unit : sizes.greatest_unit l.base l.size l.unit (drop l.letter-index l.letters) ≡ sizes.greatest_unit l.base l.size l.initial.unit l.letters;
}
