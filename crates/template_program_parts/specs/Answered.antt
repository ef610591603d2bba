-- What a reader's answer becomes.
use Rattle.std.specs.Prelude.{◌≡◌, ℕ, Result, Ok, Err}
use Rattle.std.specs.IoError.{error_kind}
use Rattle.std.specs.declared.io.Error.{Error}
use Rattle.template_program_parts.specs.Faults.{fault_of_read}
use Rattle.template_program_parts.specs.declared.faults.FileFault.{FileFault}

-- a count is passed on, and an error is told as its fault
abbrev pub TellsRead : Result ℕ FileFault → Result ℕ Error → Type 0
TellsRead result (Ok count) = result ≡ Ok count
TellsRead result (Err error) = result ≡ Err (fault_of_read (error_kind error))
