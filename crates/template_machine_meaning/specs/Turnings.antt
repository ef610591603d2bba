-- What is made of the value of a call that was asked further.
use Rattle.std.specs.Prelude.{ℕ, Bool, List, [], ◌∷◌, Result, Ok, Err}
use Rattle.template_values_errors.specs.declared.ErrorKind.{ErrorKind}
use Rattle.template_values_errors.specs.declared.modes.AutoEscape.{AutoEscape}
use Rattle.template_values_model.specs.Val as values
use Rattle.template_values_model.specs.Val.{Val}
use Rattle.template_values_forms.specs.Known.{Known}
use Rattle.template_values_forms.specs.Printed.{printed}
use Rattle.template_values_forms.specs.Truth as truths
use Rattle.template_compiler_process.specs.Process.{Told, tells, fails, value}
use Rattle.template_machine_meaning.specs.World.{World, keeps}
use Rattle.template_machine_meaning.specs.Records.{known_of}
use Rattle.template_machine_meaning.specs.Captures.{captured}
use Rattle.template_machine_meaning.specs.Replies.{kinded}

-- true or false, by what is known of records; or its printed form, which is safe under an escape
pub data Turning : Type 0 where
  to_truth : Turning
  to_text : Turning

abbrev pub decided : Result Bool ErrorKind → Told
decided (Ok b) = tells (value (values.truth b))
decided (Err kind) = fails (kind ∷ [])

abbrev pub worded : AutoEscape → Result (List ℕ) ErrorKind → Told
worded rule (Ok text) = tells (value (captured rule (keeps text)))
worded rule (Err kind) = fails (kind ∷ [])

abbrev pub turned_value : Known → AutoEscape → Turning → Val → Told
turned_value known rule to_truth v = decided (kinded (truths.truth_of known v))
turned_value known rule to_text v = worded rule (kinded (printed known v))

-- a fault stays what it is
abbrev pub turned_by : World → Turning → Told → Told
turned_by w t (tells (value v)) = turned_value (known_of w) w.escape t v
turned_by w t told = told

-- one after the other
abbrev pub turned : World → List Turning → Told → Told
turned w [] told = told
turned w (t ∷ ts) told = turned w ts (turned_by w t told)
