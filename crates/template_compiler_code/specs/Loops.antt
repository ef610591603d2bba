-- Where a loop leads that has no further item.
use Rattle.std.specs.Prelude.{ℕ, Bool, false, Option, Some, nat_lt}
use Rattle.template_compiler_code.specs.Code.{Code, iterate}

abbrev pub is_iterate_past : ℕ → Option Code → Bool
is_iterate_past place (Some (iterate to)) = nat_lt place to
is_iterate_past place _ = false
