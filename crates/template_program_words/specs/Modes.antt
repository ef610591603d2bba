-- What the word behind `--undefined` stands for.
use Rattle.std.specs.Prelude.{ℕ, List, Option, None, Some, if◌then◌else◌, bytes_eq, codes}
use Rattle.template_values_errors.specs.declared.modes.UndefinedBehavior.{UndefinedBehavior}
use Rattle.template_values_errors.specs.declared.modes.UndefinedBehavior.TheVariants.{Lenient, Chainable, SemiStrict, Strict}

abbrev pub mode_named : List ℕ → Option UndefinedBehavior
mode_named word =
    if bytes_eq (codes "lenient") word then Some Lenient
    else if bytes_eq (codes "chainable") word then Some Chainable
    else if bytes_eq (codes "semistrict") word then Some SemiStrict
    else if bytes_eq (codes "strict") word then Some Strict
    else None

-- lenient where there is no word
abbrev pub mode_of : Option (List ℕ) → Option UndefinedBehavior
mode_of None = Some Lenient
mode_of (Some word) = mode_named word
