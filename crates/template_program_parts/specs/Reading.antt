-- What a reader has given, by what it had left before and has left after.
use Rattle.std.specs.Prelude.{◌≡◌, ◌≤◌, ◌⊎◌, ◌++◌, ℕ, List, Option, IfSome, IsUtf8, length}
use Rattle.std.specs.Io.KnownBytes.{Consumes, IsAtEnd}

-- at most this many bytes were taken from it
abbrev pub GivesAtMost : Option (List ℕ) → Option (List ℕ) → ℕ → Type 0
GivesAtMost before after most =
    (taken : List ℕ) × Consumes before after taken × (length taken ≤ most)

-- exactly this many bytes were taken from it
abbrev pub GivesCount : Option (List ℕ) → Option (List ℕ) → ℕ → Type 0
GivesCount before after count =
    (taken : List ℕ) × Consumes before after taken × (length taken ≡ count)

-- all that it had left was taken from it, and is no text
abbrev pub GivesNoText : Option (List ℕ) → Option (List ℕ) → Type 0
GivesNoText before after =
    (taken : List ℕ) × Consumes before after taken × IsAtEnd after × ¬ (IsUtf8 taken)

-- this many bytes were taken from it and put behind the old ones
abbrev pub AddsPiece : Option (List ℕ) → Option (List ℕ) → List ℕ → List ℕ → ℕ → Type 0
AddsPiece before after old new count =
    (taken : List ℕ) × Consumes before after taken × (new ≡ old ++ taken) × (length taken ≡ count)

-- no file is told to stand there, or it has this many bytes or more
abbrev pub LacksFile : Option (List ℕ) → ℕ → Type 0
LacksFile content limit = IfSome content (λ all. limit ≤ length all)

-- the same, or what stands there is no text
abbrev pub LacksText : Option (List ℕ) → ℕ → Type 0
LacksText content limit = IfSome content (λ all. (limit ≤ length all) ⊎ ¬ (IsUtf8 all))
