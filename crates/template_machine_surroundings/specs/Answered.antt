-- What a writer answered to its writes, where it tells, and what becomes of an answer in a sink over it.
use Rattle.std.specs.Prelude.{◌≡◌, ◌≢◌, ℕ, List, [], ◌∷◌, ◌++◌, Option, None, Some, Result, Ok, Err}
use Rattle.std.specs.IoError.{error_kind}
use Rattle.std.specs.declared.io.Error.{Error}
use Rattle.std.specs.declared.io.ErrorKind.TheVariants.{OutOfMemory}
use Rattle.template_machine_surroundings.specs.declared.fault.SinkFault.{SinkFault}
use Rattle.template_machine_surroundings.specs.declared.fault.SinkFault.TheVariants.{Memory, Device}

-- one write was made, which answered so
abbrev pub AnswersOnce : Option (List (Result ℕ Error)) → Option (List (Result ℕ Error)) → (Result ℕ Error → Type 0) → Type 0
AnswersOnce None new holds = Unit {0}
AnswersOnce (Some answers) new holds = (answer : Result ℕ Error) × (new ≡ Some (answers ++ answer ∷ [])) × holds answer

-- A count is passed on. Want of memory is told as such; of any other error the sink keeps the very one.
abbrev pub PassesOn : Result ℕ SinkFault → Option Error → Option Error → Result ℕ Error → Type 0
PassesOn result old new (Ok count) = (result ≡ Ok count) × (new ≡ old)
PassesOn result old new (Err error) =
    (error_kind error ≡ OutOfMemory → (result ≡ Err Memory) × (new ≡ old))
    × (error_kind error ≢ OutOfMemory → (result ≡ Err Device) × (new ≡ Some error))
