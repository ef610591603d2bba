-- The places of templates, and what is reached so far.
use Rattle.std.specs.Prelude.{◌≡◌, ◌⊎◌, ℕ, ◌<◌, ◌+◌, Bool, true, false, not, List, [], ◌∷◌, ◌++◌, length, get_or, count_by, Option, None, Some}
use Rattle.std.specs.Borrow.{Bor}
use Rattle.std.specs.BTreeMap.{BTreeMap, get_by}
use Rattle.std.specs.Cmp.Lexicographic.{slice_cmp}
use Rattle.std.specs.List.{All, Contains}
use Rattle.std.specs.Ordering.{nat_cmp}

-- the template at a place
abbrev pub text_at : List (List ℕ × List ℕ) → ℕ → List ℕ × List ℕ
text_at texts i = get_or texts i ([], [])

-- at the place stands the last template of the name among the first n
pub record IsLast (texts : List (List ℕ × List ℕ)) (n : ℕ) (name : List ℕ) (i : ℕ) : Type 0 where
  pub within : i < n
  pub named : (text_at texts i).0 ≡ name
  pub last : (k : ℕ) → k < n → i < k → (text_at texts k).0 ≡ name → ⊥

-- the place that is kept of a name
abbrev pub kept_of : List ℕ → BTreeMap (Bor (List ℕ)) ℕ → Option ℕ
kept_of name places = get_by (λ k. slice_cmp nat_cmp name k.now) places

abbrev pub IsPlace : List (List ℕ × List ℕ) → ℕ → List ℕ → Option ℕ → Type 0
IsPlace texts n name (Some i) = IsLast texts n name i
IsPlace texts n name None = (k : ℕ) → k < n → (text_at texts k).0 ≡ name → ⊥

-- of each name the place is kept of its last template among the first n, and none of others
abbrev pub TellPlaces : BTreeMap (Bor (List ℕ)) ℕ → List (List ℕ × List ℕ) → ℕ → Type 0
TellPlaces places texts n = (name : List ℕ) → IsPlace texts n name (kept_of name places)

-- the marks tell which places stand in the order, and each stands there once
pub record IsMarked (marks : List Bool) (order : List ℕ) : Type 0 where
  pub marked : (i : ℕ) → get_or marks i false ≡ true → Contains order i
  pub ordered : All (λ i. (i < length marks) × (get_or marks i false ≡ true)) order
  pub counted : count_by not marks + length order ≡ length marks

-- the place stood in the order, or came behind the others
abbrev pub Comes : ℕ → List ℕ → List ℕ → Type 0
Comes place old new = ((new ≡ old) × Contains old place) ⊎ (new ≡ old ++ place ∷ [])

-- the places of the names came behind those that were there
pub record Reaches (places : BTreeMap (Bor (List ℕ)) ℕ) (names : List (List ℕ)) (old new : List ℕ) : Type 0 where
  pub added : List ℕ
  pub behind : new ≡ old ++ added
  pub from : All (λ i. (name : List ℕ) × Contains names name × (kept_of name places ≡ Some i)) added
  pub there : (name : List ℕ) (i : ℕ) → Contains names name → kept_of name places ≡ Some i → Contains new i
