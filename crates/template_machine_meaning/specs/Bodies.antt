-- The bodies that templates give to blocks, and which of them a call of a block runs.
use Rattle.std.specs.Prelude.{ℕ, Bool, List, [], ◌∷◌, ◌++◌, Option, None, Some, if◌then◌else◌}
use Rattle.std.specs.Str.{bytes_eq}
use Rattle.std.specs.Ordering.{nat_cmp}
use Rattle.std.specs.Cmp.Lexicographic.{slice_cmp}
use Rattle.std.specs.BTreeMap.{insert_entry}
use Rattle.template_machine_meaning.specs.Keys.{Home}

-- the templates that have a body for a block, the one that extends the others first; and the place of the one whose body runs
pub record Bodies : Type 0 where
  pub homes : List Home
  pub place : ℕ

abbrev pub bodies_at : List ℕ → List (List ℕ × Bodies) → Option Bodies
bodies_at name [] = None
bodies_at name (b ∷ blocks) = if bytes_eq b.0 name then Some b.1 else bodies_at name blocks

-- one body more, behind those that are there
abbrev pub bodies_behind : Home → Option Bodies → Bodies
bodies_behind home None = record { homes = home ∷ []; place = 0 }
bodies_behind home (Some b) = record b { homes = b.homes ++ home ∷ [] }

abbrev pub with_body : Home → List ℕ → List (List ℕ × Bodies) → List (List ℕ × Bodies)
with_body home name blocks = insert_entry (slice_cmp nat_cmp) blocks name (bodies_behind home (bodies_at name blocks))

-- those of a template's blocks, in turn
abbrev pub with_bodies : Home → List (List ℕ × Bool) → List (List ℕ × Bodies) → List (List ℕ × Bodies)
with_bodies home [] blocks = blocks
with_bodies home (b ∷ bs) blocks = with_bodies home bs (with_body home b.0 blocks)

-- the block's calls run the body at the place
abbrev pub placed : ℕ → Bodies → Bodies
placed place b = record b { place = place }

abbrev pub with_place : List ℕ → ℕ → List (List ℕ × Bodies) → List (List ℕ × Bodies)
with_place name place [] = []
with_place name place (b ∷ blocks) = if bytes_eq b.0 name then (b.0, placed place b.1) ∷ blocks else b ∷ with_place name place blocks
