-- The words that stand for modes of a render.
use Rattle.std.specs.Prelude.{ℕ, List, Option, None, Some, if◌then◌else◌, bytes_eq, codes}
use Rattle.template_values_errors.specs.declared.modes.AutoEscape.TheVariants.{Html, Json}
use Rattle.template_values_errors.specs.declared.modes.UndefinedBehavior.{UndefinedBehavior}
use Rattle.template_values_errors.specs.declared.modes.UndefinedBehavior.TheVariants.{Lenient, Chainable, SemiStrict, Strict}
use Rattle.template_values_json.specs.declared.contexts.Floats.{Floats}
use Rattle.template_values_json.specs.declared.contexts.Floats.TheVariants.{Refused, AsSpelled}
use Rattle.template_machine_surroundings.specs.declared.escape.EscapeRule.{EscapeRule}
use Rattle.template_machine_surroundings.specs.declared.escape.EscapeRule.TheVariants.{ByName, Never, Fixed}

-- what may be done with undefined values
abbrev pub mode_named : List ℕ → Option UndefinedBehavior
mode_named word =
    if bytes_eq (codes "lenient") word then Some Lenient
    else if bytes_eq (codes "chainable") word then Some Chainable
    else if bytes_eq (codes "semistrict") word then Some SemiStrict
    else if bytes_eq (codes "strict") word then Some Strict
    else None

-- lenient where there is no word
abbrev pub mode_of : Option (List ℕ) → Option UndefinedBehavior
mode_of None = Some Lenient
mode_of (Some word) = mode_named word

-- how printed values are escaped
abbrev pub escape_named : List ℕ → Option EscapeRule
escape_named word =
    if bytes_eq (codes "none") word then Some Never
    else if bytes_eq (codes "html") word then Some (Fixed Html)
    else if bytes_eq (codes "json") word then Some (Fixed Json)
    else if bytes_eq (codes "name") word then Some ByName
    else None

-- by the template's name where there is no word
abbrev pub escape_of : Option (List ℕ) → Option EscapeRule
escape_of None = Some ByName
escape_of (Some word) = escape_named word

-- what becomes of numbers that are no whole ones
abbrev pub floats_named : List ℕ → Option Floats
floats_named word =
    if bytes_eq (codes "refused") word then Some Refused
    else if bytes_eq (codes "text") word then Some AsSpelled
    else None

-- they are refused where there is no word
abbrev pub floats_of : Option (List ℕ) → Option Floats
floats_of None = Some Refused
floats_of (Some word) = floats_named word
