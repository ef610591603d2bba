-- Which names, as tests, and sets of them.
use Rattle.std.specs.Prelude.{◌≡◌, ℕ, Bool, false, ◌||◌, List, String, bytes_eq}
use Rattle.std.specs.Borrow.{Bor}
use Rattle.std.specs.List.{list_any}
use Rattle.std.specs.BTreeSet.{BTreeSet, contains_text}

abbrev pub Among : Type 0
Among = List ℕ → Bool

abbrev pub nothing : Among
nothing name = false

abbrev pub just : List ℕ → Among
just id name = bytes_eq id name

-- one of these names
abbrev pub is_among : List (Bor (List ℕ)) → Among
is_among names name = list_any (λ other. bytes_eq other.now name) names

-- the set has the names that were there and those that are among the others, and no more
abbrev pub Adds : {A : Type 0} → Among → BTreeSet (String A) → BTreeSet (String A) → Type 0
Adds among old new = (name : List ℕ) → contains_text new name ≡ (contains_text old name || among name)
