-- What the word behind `--floats` stands for.
use Rattle.std.specs.Prelude.{ℕ, Bool, true, false, List, Option, None, Some, if◌then◌else◌, bytes_eq, codes}

-- whether a float of a context is a text, as it is spelled
abbrev pub floats_named : List ℕ → Option Bool
floats_named word = if bytes_eq (codes "text") word then Some true else None

-- refused where there is no word
abbrev pub floats_of : Option (List ℕ) → Option Bool
floats_of None = Some false
floats_of (Some word) = floats_named word
