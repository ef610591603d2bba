-- Multiples.
use Rattle.std.specs.Prelude.{ℕ, ℤ, ◌%◌, ◌==◌, unsigned_abs, Bool, if◌then◌else◌, Result, Ok}
use Rattle.template_values_errors.specs.declared.ErrorKind.{ErrorKind}
use Rattle.template_builtins_arguments.specs.Answers.{refused}

-- no remainder is left
abbrev pub is_multiple : ℤ → ℕ → Bool
is_multiple n size = (unsigned_abs n % size) == 0

-- the number is a multiple of the other, which is not 0
abbrev pub divided : ℤ → ℤ → Result Bool ErrorKind
divided n d = if unsigned_abs d == 0 then refused else Ok (is_multiple n (unsigned_abs d))
