-- The text of a value under an escape.
use Rattle.std.specs.Prelude.{ℕ, List, Result, Ok, Err}
use Rattle.serde_json.specs.Written.{compact_text}
use Rattle.template_values_model.specs.Fault.{Fault, invalid_operation}
use Rattle.template_values_model.specs.Val.{Val, safe_text}
use Rattle.template_values_errors.specs.declared.modes.AutoEscape.{AutoEscape}
use Rattle.template_values_errors.specs.declared.modes.AutoEscape.TheVariants.{None, Html, Json, Custom}
use Rattle.template_values_forms.specs.Answers.{mapped}
use Rattle.template_values_forms.specs.Escapes.{html}
use Rattle.template_values_forms.specs.Json.{json_data}
use Rattle.template_values_forms.specs.Known.{Known}
use Rattle.template_values_forms.specs.Printed.{printed}

-- a safe text stands as it is
abbrev pub html_text : Known → Val → Result (List ℕ) Fault
html_text known (safe_text s) = Ok s
html_text known v = mapped html (printed known v)

-- the same for JSON, at the top alone
abbrev pub json_text : Known → Val → Result (List ℕ) Fault
json_text known (safe_text s) = Ok s
json_text known v = mapped compact_text (json_data known v)

-- a format of the embedder's own has no text here
abbrev pub escaped : AutoEscape → Known → Val → Result (List ℕ) Fault
escaped None known v = printed known v
escaped Html known v = html_text known v
escaped Json known v = json_text known v
escaped (Custom n) known v = Err invalid_operation
