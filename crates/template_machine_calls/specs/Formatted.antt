-- What values are printed as, where a user's own may say so.
use Rattle.std.specs.Prelude.{◌≡◌, ℕ, List, [], ◌∷◌, Option, None, Some, Result, Ok, Err, if◌then◌else◌}
use Rattle.template_values_errors.specs.declared.ErrorKind.{ErrorKind}
use Rattle.template_values_errors.specs.declared.ErrorKind.TheVariants.{UndefinedError}
use Rattle.template_values_model.specs.Val.{Val}
use Rattle.template_values_forms.specs.Escaped.{escaped}
use Rattle.template_callables.specs.Callables as callables
use Rattle.template_callables.specs.Callables.{View, Formatted, writes, forbids}
use Rattle.template_machine_meaning.specs.Calls.{view_of}
use Rattle.template_machine_meaning.specs.Keys.{Around}
use Rattle.template_machine_meaning.specs.Records.{known_of}
use Rattle.template_machine_meaning.specs.Replies.{kinded}
use Rattle.template_machine_meaning.specs.Undefined.{forbids_printing}
use Rattle.template_machine_meaning.specs.World.{World}
use Rattle.template_machine_operations.specs.Answers.{answered}
use Rattle.template_machine_going.specs.Told.{FaultsSo}
use Rattle.template_machine_going.specs.declared.stop.Stop.{Stop}

-- the text that is printed, or the kinds of the fault that refuses it
abbrev pub Printed : Type 0
Printed = Result (List ℕ) (List ErrorKind)

-- under the escape in force
abbrev pub escaped_in : World → Val → Printed
escaped_in w v = answered (kinded (escaped w.escape (known_of w) v))

-- as a user's own states
abbrev pub formatted_in : World → Formatted → Printed
formatted_in w (writes text) = Ok text
formatted_in w (callables.escapes v) = escaped_in w v
formatted_in w (forbids kinds) = Err kinds

-- where one is there
abbrev pub formatted_by : World → View → Val → Option (View → Val → Formatted) → Printed
formatted_by w view v None = escaped_in w v
formatted_by w view v (Some formats) = formatted_in w (formats view v)

-- an undefined value that may not be printed is refused before
abbrev pub printed_as : Around → World → Val → Printed
printed_as a w v = if forbids_printing a.undefined v then Err (UndefinedError ∷ []) else formatted_by w (view_of a w) v a.callables.formats

-- the text is made, or what refuses it is told, or no memory is left
abbrev pub IsMade : {X : Type 0} → Printed → Result X Stop → List ℕ → Type 0
IsMade printed (Ok x) text = printed ≡ Ok text
IsMade printed (Err stop) text = FaultsSo (λ kinds. printed ≡ Err kinds) stop

-- the same, where no capture is open
abbrev pub outside : World → World
outside w = record w { captures = [] }
