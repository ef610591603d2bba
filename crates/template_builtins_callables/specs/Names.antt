-- What stands under a name in a table.
use Rattle.std.specs.Prelude.{ℕ, List, [], ◌∷◌, map, Option, None, Some, bytes_eq, if◌then◌else◌}
use Rattle.std.specs.Borrow.{Bor}

-- names with what stands under them
abbrev pub rows_of : {K : Type 0} → List (Bor (List ℕ) × K) → List (List ℕ × K)
rows_of = map (λ row. (row.0.now, row.1))

-- what stands first under the name
abbrev pub named : {K : Type 0} → List (List ℕ × K) → List ℕ → Option K
named [] name = None
named (row ∷ rows) name = if bytes_eq row.0 name then Some row.1 else named rows name
