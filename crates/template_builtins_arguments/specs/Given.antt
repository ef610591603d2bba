-- The arguments that a call was given, by the numbers of their parameters.
use Rattle.std.specs.Prelude.{ℕ, List, map, Option}
use Rattle.std.specs.Borrow.{Bor}
use Rattle.template_values_model.specs.Val.{Val}
use Rattle.template_builtins_arguments.specs.Arguments.{argument_at}
use Rattle.template_builtins_arguments.specs.declared.arguments.Arguments.{Arguments}

abbrev pub names_of : List (Bor (List ℕ)) → List (List ℕ)
names_of = map (λ name. name.now)

abbrev pub given_by : Arguments → ℕ → Option Val
given_by a = argument_at (names_of a.names.now) a.values.now
