-- The whole number that a value stands for in a base.
use Rattle.std.specs.Prelude.{ℕ, ℤ, pos, negsuc, ◌&&◌, ◌==◌, nat_le, if◌then◌else◌, List, Option, None, Some, option_and_then, Result, Ok}
use Rattle.std.specs.Option.{option_or}
use Rattle.std.specs.Str.{trim}
use Rattle.template_values_errors.specs.declared.ErrorKind.{ErrorKind}
use Rattle.template_values_model.specs.Val.{Val, int}
use Rattle.template_values_core.specs.Answers.{text_in}
use Rattle.template_values_core.specs.Reads.{number_of}
use Rattle.template_builtins_arguments.specs.Answers.{refused}
use Rattle.template_builtins_numbers.specs.Decimals.{decimal_of, whole_part}
use Rattle.template_builtins_numbers.specs.Wholes.{whole_written}

-- a base is from 2 to 36
abbrev pub base_from : ℤ → Result ℕ ErrorKind
base_from (pos n) = if nat_le 2 n && nat_le n 36 then Ok n else refused
base_from (negsuc n) = refused

abbrev pub whole_part_of : List ℕ → Option ℤ
whole_part_of s = option_and_then whole_part (decimal_of s)

-- in base 10 a decimal counts by its whole part
unfoldable pub decimal_written : ℕ → List ℕ → Option ℤ
decimal_written base s = if base == 10 then whole_part_of s else None

unfoldable pub number_written : ℕ → List ℕ → Option ℤ
number_written base s = option_or (whole_written base s) (decimal_written base s)

-- a number, a truth value as 0 or 1, and what a text writes without the white space at its ends
abbrev pub number_by : ℕ → Option ℤ → Option (List ℕ) → Option ℤ
number_by base (Some n) s = Some n
number_by base None (Some s) = number_written base (trim s)
number_by base None None = None

unfoldable pub number_in : ℕ → Val → Option ℤ
number_in base v = number_by base (number_of v) (text_in v)

-- a number that was found, else the default
abbrev pub number_or : Val → Option ℤ → Val
number_or default None = default
number_or default (Some n) = int n
