-- How the calls of values answer.
use Rattle.std.specs.Prelude.{◌≡◌, ℕ, ◌<◌, List, [], ◌∷◌, ◌⊎◌, Option, None, Some}
use Rattle.template_values_errors.specs.declared.ErrorKind.{ErrorKind}
use Rattle.template_values_errors.specs.declared.ErrorKind.TheVariants.{InvalidOperation}
use Rattle.template_values_errors.specs.Memory.{NoMemory}
use Rattle.template_values_model.specs.declared.TheConstants.{DEPTH_LIMIT}
use Rattle.template_values_model.specs.Val.{Val, text, safe_text}
use Rattle.template_values_core.specs.Depth.{depth}

-- the value would nest deeper than any value may, or a growth was refused
abbrev pub TooDeep : Val → List ErrorKind → Type 0
TooDeep v kinds = NoMemory kinds ⊎ ((kinds ≡ InvalidOperation ∷ []) × (DEPTH_LIMIT < depth v))

-- the bytes of a text, safe or not
abbrev pub text_in : Val → Option (List ℕ)
text_in (text s) = Some s
text_in (safe_text s) = Some s
text_in _ = None
