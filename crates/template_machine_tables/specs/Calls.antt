-- Calls of `changed`, by the numbers of loops.
use Rattle.std.specs.Prelude.{ℕ, ◌==◌, Bool, List}
use Rattle.template_values_model.specs.Val.{Val}

-- the call was for the loop of the number
abbrev pub is_for : ℕ → ℕ × List Val → Bool
is_for number call = call.0 == number
