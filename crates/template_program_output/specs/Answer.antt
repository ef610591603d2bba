-- What an output answers, and which answers are failures.
use Rattle.std.specs.Prelude.{ℕ, ◌+◌, ◌==◌, List, [], ◌∷◌, Bool, true, false, Result, Ok, Err, if◌then◌else◌}
use Rattle.std.specs.IoError.{error_kind}
use Rattle.std.specs.declared.io.Error.{Error}
use Rattle.std.specs.declared.io.ErrorKind.{ErrorKind}
use Rattle.std.specs.declared.io.ErrorKind.TheVariants as kind

-- an answer to a write, or to a flush
pub data Answer : Type 0 where
  to_write : Result ℕ Error → Answer
  to_flush : Result (Unit {0}) Error → Answer

-- every error but want of memory is a failure
abbrev pub is_failed : ErrorKind → Bool
is_failed kind.OutOfMemory = false
is_failed _ = true

-- but an interrupted write is made again
abbrev pub is_failed_write : ErrorKind → Bool
is_failed_write kind.Interrupted = false
is_failed_write other = is_failed other

-- a write that takes nothing is a failure too
abbrev pub is_failure : Answer → Bool
is_failure (to_write (Ok count)) = count == 0
is_failure (to_write (Err error)) = is_failed_write (error_kind error)
is_failure (to_flush (Ok _)) = false
is_failure (to_flush (Err error)) = is_failed (error_kind error)

abbrev pub one_if : Bool → ℕ
one_if b = if b then 1 else 0

-- how many of the answers are failures
abbrev pub failures_among : List Answer → ℕ
failures_among [] = 0
failures_among (answer ∷ later) = one_if (is_failure answer) + failures_among later

-- a result that is a failure is one
abbrev pub failures_of : Result (Unit {0}) Error → ℕ
failures_of (Ok _) = 0
failures_of (Err error) = one_if (is_failed (error_kind error))

-- a result, but for its count
abbrev pub without_count : Result ℕ Error → Result (Unit {0}) Error
without_count (Ok _) = Ok tt
without_count (Err error) = Err error
