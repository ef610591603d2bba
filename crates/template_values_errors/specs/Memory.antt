-- The refusal of a growth.
use Rattle.std.specs.Prelude.{◌≡◌, List, [], ◌∷◌}
use Rattle.template_values_errors.specs.declared.ErrorKind.{ErrorKind}
use Rattle.template_values_errors.specs.declared.ErrorKind.TheVariants.{OutOfMemory}

-- a growth was refused
abbrev pub NoMemory : List ErrorKind → Type 0
NoMemory kinds = kinds ≡ OutOfMemory ∷ []
