-- What counts as a failure of a sink, and the kind of error that its fault becomes.
use Rattle.std.specs.Prelude.{ℕ, List, length, ◌==◌, ◌&&◌, not, if◌then◌else◌, Result, Ok, Err}
use Rattle.template_machine_surroundings.specs.declared.fault.SinkFault.{SinkFault}
use Rattle.template_machine_surroundings.specs.declared.fault.SinkFault.TheVariants.{Memory, Device}
use Rattle.template_values_errors.specs.declared.ErrorKind.{ErrorKind}
use Rattle.template_values_errors.specs.declared.ErrorKind.TheVariants.{OutOfMemory, WriteFailure}

-- the failures in one answer of `put`: `Device` is one, and so is taking nothing of a piece that isn't empty
abbrev pub failures_in : Result ℕ SinkFault → List ℕ → ℕ
failures_in (Ok count) piece = if count == 0 && not (length piece == 0) then 1 else 0
failures_in (Err Device) piece = 1
failures_in (Err Memory) piece = 0

-- the kind that stands for a fault
abbrev pub kind_of_fault : SinkFault → ErrorKind
kind_of_fault Memory = OutOfMemory
kind_of_fault Device = WriteFailure
