-- Which fault an error is.
use Rattle.std.specs.Prelude.{ℕ, Bool, true, false, Result, Err}
use Rattle.std.specs.declared.io.ErrorKind.{ErrorKind}
use Rattle.std.specs.declared.io.ErrorKind.TheVariants as kind
use Rattle.template_program_parts.specs.declared.faults.FileFault.{FileFault}
use Rattle.template_program_parts.specs.declared.faults.FileFault.TheVariants.{File, Memory}

-- want of memory is told apart from every other error
abbrev pub fault_of_read : ErrorKind → FileFault
fault_of_read kind.OutOfMemory = Memory
fault_of_read _ = File

-- the read failed, and not for want of memory
abbrev pub is_file_fault : Result ℕ FileFault → Bool
is_file_fault (Err File) = true
is_file_fault _ = false
