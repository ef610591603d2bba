use Rattle.std.proofs.Common.{◌≡◌, ◌≤◌, take, length}
use Rattle.template_builtins_decimals.specs.Fixed as fixed
use Rattle.template_builtins_decimals.proofs.texts.without_zeros.Given as goal

-- what is left comes to the same without its zeros
abbrev pub invariant-back : goal.invariant-back
invariant-back l = record {
  within : l.end ≤ length l.digits;
  text : fixed.without_zeros (take l.end l.digits) ≡ fixed.without_zeros l.digits;
}

abbrev pub decreases-back : goal.decreases-back
decreases-back l = l.end
