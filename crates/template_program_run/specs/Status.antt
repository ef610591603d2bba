-- The status of what is refused before there is an outcome.
use Rattle.std.specs.Prelude.{ℕ, List, ◌∷◌}
use Rattle.std.specs.declared.io.ErrorKind.{ErrorKind as IoKind}
use Rattle.std.specs.declared.io.ErrorKind.TheVariants as io
use Rattle.template_values_errors.specs.declared.ErrorKind.{ErrorKind}
use Rattle.template_values_errors.specs.declared.ErrorKind.TheVariants.{OutOfMemory}
use Rattle.template_program_parts.specs.declared.faults.FileFault.{FileFault}
use Rattle.template_program_parts.specs.declared.faults.FileFault.TheVariants as input

-- arguments that cannot be had
abbrev pub arguments_status : IoKind → ℕ
arguments_status io.OutOfMemory = 6
arguments_status _ = 2

-- a file or an input that is refused
abbrev pub file_status : FileFault → ℕ
file_status input.File = 3
file_status input.Memory = 6

-- a syntax that is refused
abbrev pub syntax_status : List ErrorKind → ℕ
syntax_status (OutOfMemory ∷ causes) = 6
syntax_status _ = 2
