-- Numbers without their signs.
use Rattle.std.proofs.Common.{◌≡◌, ℤ, pos, negsuc, neg_ℤ, ◌<ℤ◌, ◌≤ℤ◌, Some, refl, arith}
use Rattle.std.proofs.lemmas.Int.{ints}
use Rattle.template_values_operators.specs.Numbers.{in_range}
use Rattle.template_builtins_numbers.specs.Values.{magnitude}

pub magnitude_below : (z : ℤ) → z <ℤ pos 0 → in_range (neg_ℤ z) ≡ magnitude z
magnitude_below (pos n) h = absurd (omega (arith, ints))
magnitude_below (negsuc n) h = refl

pub magnitude_from : (z : ℤ) → pos 0 ≤ℤ z → Some z ≡ magnitude z
magnitude_from (pos n) h = refl
magnitude_from (negsuc n) h = absurd (omega (arith, ints))
