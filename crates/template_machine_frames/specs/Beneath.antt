-- What stands beneath the names of a frame: nothing, a closure, or a context value.
use Rattle.std.specs.Prelude.{ℕ, Option, None, Some}
use Rattle.template_values_model.specs.Val.{Val, undefined}
use Rattle.template_machine_frames.specs.declared.frame.Beneath.{Beneath}
use Rattle.template_machine_frames.specs.declared.frame.Beneath.TheVariants.{Nothing, Closure, Context}

abbrev pub reads_of : Beneath → Option ℕ
reads_of Nothing = None
reads_of (Closure number) = Some number
reads_of (Context v) = None

abbrev pub context_of : Beneath → Val
context_of Nothing = undefined
context_of (Closure number) = undefined
context_of (Context v) = v
