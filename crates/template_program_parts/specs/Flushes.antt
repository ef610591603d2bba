-- What becomes of an outcome when its output is flushed.
use Rattle.std.specs.Prelude.{[], ◌∷◌, Result, Ok, Err}
use Rattle.std.specs.IoError.{error_kind}
use Rattle.std.specs.declared.io.Error.{Error}
use Rattle.std.specs.declared.io.ErrorKind.{ErrorKind as IoKind}
use Rattle.std.specs.declared.io.ErrorKind.TheVariants as io
use Rattle.template_values_errors.specs.declared.ErrorKind.{ErrorKind}
use Rattle.template_values_errors.specs.declared.ErrorKind.TheVariants.{OutOfMemory, WriteFailure}
use Rattle.template_program_parts.specs.declared.outcome.Outcome.{Outcome}
use Rattle.template_program_parts.specs.declared.outcome.Outcome.TheVariants.{Done, Render, Context, Template}

-- want of memory is told apart from every other error of a flush
abbrev pub flush_kind : IoKind → ErrorKind
flush_kind io.OutOfMemory = OutOfMemory
flush_kind _ = WriteFailure

-- A failed flush takes the place of a run that is done and of a fault of the render. A context or a template
-- that is refused stays so.
abbrev pub flushed : Result (Unit {0}) Error → Outcome → Outcome
flushed (Ok _) outcome = outcome
flushed (Err error) Done = Render (flush_kind (error_kind error) ∷ [])
flushed (Err error) (Render kinds) = Render (flush_kind (error_kind error) ∷ [])
flushed (Err error) (Context kinds) = Context kinds
flushed (Err error) (Template kinds) = Template kinds
