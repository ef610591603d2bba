-- What a sink has taken of a text.
use Rattle.std.specs.Prelude.{ℕ, List, Option, take}
use Rattle.std.specs.Io.KnownBytes.{Appends}

-- known bytes grow by a beginning of bs
abbrev pub AppendsBeginning : Option (List ℕ) → Option (List ℕ) → List ℕ → Type 0
AppendsBeginning old new bs = (count : ℕ) × Appends old new (take count bs)
