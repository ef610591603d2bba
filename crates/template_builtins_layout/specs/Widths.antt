-- Widths.
use Rattle.std.specs.Prelude.{ℕ, ℤ, pos, negsuc, nat_le, Result, Ok, if◌then◌else◌}
use Rattle.template_values_errors.specs.declared.ErrorKind.{ErrorKind}
use Rattle.template_builtins_arguments.specs.Answers.{refused}
use Rattle.template_builtins_layout.specs.declared.reading.TheConstants.{GREATEST_WIDTH}

-- a width: below 0 it is 0, and it may not be past the greatest
abbrev pub width_from : ℤ → Result ℕ ErrorKind
width_from (pos n) = if nat_le n GREATEST_WIDTH then Ok n else refused
width_from (negsuc n) = Ok 0
