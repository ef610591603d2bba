-- How a call answers that appends a text.
use Rattle.std.specs.Prelude.{◌≡◌, ℕ, List, [], ◌∷◌, ◌++◌, ◌⊎◌, Result, Ok, Err}
use Rattle.template_values_errors.specs.declared.ErrorKind.{ErrorKind}
use Rattle.template_values_errors.specs.Memory.{NoMemory}

-- the text is appended; or it is refused with its kind alone, or for want of memory, and nothing is appended
abbrev pub Adds : List ℕ → Result (List ℕ) ErrorKind → Result (Unit {0}) (List ErrorKind) → List ℕ → Type 0
Adds before (Ok s) (Ok _) after = after ≡ before ++ s
Adds before (Ok s) (Err kinds) after = NoMemory kinds × (after ≡ before)
Adds before (Err kind) (Ok _) after = ⊥
Adds before (Err kind) (Err kinds) after = ((kinds ≡ kind ∷ []) ⊎ NoMemory kinds) × (after ≡ before)
