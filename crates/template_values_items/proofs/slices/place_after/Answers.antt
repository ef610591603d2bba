use Rattle.std.proofs.Common.{arith}
use Rattle.std.proofs.lemmas.Int.{ints, to_z-of_z}
use Rattle.template_values_items.proofs.slices.place_after.Goals as goal

pub overflow_cast-result-2 : goal.overflow_cast-result-2
overflow_cast-result-2 c = (grind (arith, ints, to_z-of_z), grind (arith, ints, to_z-of_z))
