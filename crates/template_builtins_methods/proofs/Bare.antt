-- A keyword map without entries names no argument.
use Rattle.std.proofs.Common.{◌≡◌, ℕ, suc, ◌==◌, false, List, [], ◌∷◌, length, refl}
use Rattle.std.proofs.Math.Dec.{eqb-suc-zero}
use Rattle.template_values_core.specs.declared.value.Entry.{Entry}
use Rattle.template_values_core.specs.Maps.{pairs_of}
use Rattle.template_values_core.specs.Shape.{pairs_in}
use Rattle.template_builtins_arguments.specs.Arguments.{are_known}

positive : (n : ℕ) → (suc n == 0) ≡ false
positive n = eqb-suc-zero n

pub bare : (es : List Entry) → (length es == 0) ≡ are_known [] (pairs_of (pairs_in es))
bare [] = refl
bare (e ∷ es) = positive (length es)
