-- What a safe text holds.
use Rattle.std.specs.Prelude.{ℕ, List, Option, None, Some}
use Rattle.template_values_model.specs.Val.{Val, safe_text}

-- the text of a safe text; none of other values
abbrev pub safe_text_in : Val → Option (List ℕ)
safe_text_in (safe_text s) = Some s
safe_text_in _ = None
