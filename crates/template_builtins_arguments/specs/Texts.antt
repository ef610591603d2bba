-- The texts that builtins make, safe or plain.
use Rattle.std.specs.Prelude.{ℕ, Bool, true, false, ◌&&◌, List, if◌then◌else◌, Result}
use Rattle.std.specs.List.{list_any}
use Rattle.template_values_errors.specs.declared.ErrorKind.{ErrorKind}
use Rattle.template_values_errors.specs.declared.modes.AutoEscape.{AutoEscape}
use Rattle.template_values_errors.specs.declared.modes.AutoEscape.TheVariants.{None, Html, Json, Custom}
use Rattle.template_values_model.specs.Val.{Val, text, safe_text}
use Rattle.template_values_forms.specs.Escaped.{escaped}
use Rattle.template_values_forms.specs.Known.{nothing_known}
use Rattle.template_callables.specs.Callables.{View}
use Rattle.template_builtins_arguments.specs.Answers.{told}
use Rattle.template_builtins_arguments.specs.Parts.{is_half_strict, unless_forbidden}

abbrev pub is_safe : Val → Bool
is_safe (safe_text s) = true
is_safe _ = false

abbrev pub is_html : AutoEscape → Bool
is_html Html = true
is_html None = false
is_html Json = false
is_html (Custom n) = false

-- a safe text or a plain one
abbrev pub text_made : Bool → List ℕ → Val
text_made safe s = if safe then safe_text s else text s

-- values that are put together make a safe text where the escape is HTML's and one of them is safe
abbrev pub makes_safe : View → List Val → Bool
makes_safe view vs = is_html view.escape && list_any is_safe vs

-- the escape of what is put into a text: HTML's where that is to be safe
abbrev pub rule_of : Bool → AutoEscape
rule_of safe = if safe then Html else None

-- what stands for a value in a text that is put together: where that is to be safe, what is not safe is escaped
abbrev pub piece_of : View → Bool → Val → Result (List ℕ) ErrorKind
piece_of view safe v =
    unless_forbidden (is_half_strict view.undefined) v (told (escaped (rule_of safe) nothing_known v))
