-- Where there are no names there are no keywords either.
use Rattle.std.proofs.Common.{arith, ◌≡◌, List, ◌∷◌, [], length, nat_eq, refl}
use Rattle.std.proofs.lemmas.Bool.Decides.{nat_tests}
use Rattle.template_values_core.specs.declared.value.Entry.{Entry}
use Rattle.template_values_core.specs.Maps.{pairs_of}
use Rattle.template_values_core.specs.Shape.{pairs_in}
use Rattle.template_builtins_arguments.specs.Arguments.{are_known}

pub known_of_none : (es : List Entry) → nat_eq (length es) 0 ≡ are_known [] (pairs_of (pairs_in es))
known_of_none [] = refl
known_of_none (e ∷ es) = grind (arith, nat_tests)
