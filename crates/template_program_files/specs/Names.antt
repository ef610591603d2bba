-- The names of drafts.
use Rattle.std.specs.Prelude.{◌≡◌, ◌++◌, ℕ, List, Option, Some, codes, decimal}

-- a path with a number and `.part` behind it
abbrev pub draft_name : List ℕ → ℕ → List ℕ
draft_name path number = path ++ codes "." ++ decimal number ++ codes ".part"

-- this is such a name
abbrev pub IsNamedBeside : List ℕ → Option (List ℕ) → Type 0
IsNamedBeside path name = (number : ℕ) × (name ≡ Some (draft_name path number))
