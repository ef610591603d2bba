use Rattle.std.proofs.Common.{◌≡◌, ◌++◌, take}
use Rattle.std.specs.Str.Parse.{digits_value}
use Rattle.template_builtins_numbers.specs.Decimals.{digits_before}
use Rattle.template_builtins_numbers.proofs.decimals.counted.Given as goal

-- the total is what the digits so far write
abbrev pub invariant-loop-place : goal.invariant-loop-place
invariant-loop-place l = l.total ≡ digits_value 10 (take l.place (digits_before (l.whole ++ l.fraction) l.places))
