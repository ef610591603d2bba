-- Histories: what changes do to what stands under names, one after another. `at` tells of an environment what stands there
-- under a name.
use Rattle.std.specs.Prelude.{◌≡◌, ℕ, List, [], ◌∷◌, ◌++◌, All, Option, None, Some, if◌then◌else◌, bytes_eq}

-- a change of what stands: a source was added under a name; one was refused; what stands under a name was removed, or all
pub data Change (S : Type 0) : Type 0 where
  added : List ℕ → S → Change S
  refused : List ℕ → S → Change S
  removed : List ℕ → Change S
  cleared : Change S

-- A change leads from the one environment to the other.
abbrev pub Leads : {E S : Type 0} → (E → List ℕ → Option S) → Change S → E → E → Type 0
Leads at (added name source) old new = (other : List ℕ) → at new other ≡ (if bytes_eq name other then Some source else at old other)
Leads at (refused name source) old new = (name : List ℕ) → at new name ≡ at old name
Leads at (removed name) old new = (other : List ℕ) → at new other ≡ (if bytes_eq name other then None else at old other)
Leads at cleared old new = (name : List ℕ) → at new name ≡ None

-- So do changes, from the first to the last, through one environment after another.
abbrev pub LeadsThrough : {E S : Type 0} → (E → List ℕ → Option S) → List (Change S) → E → E → Type 0
LeadsThrough at [] old new = (name : List ℕ) → at new name ≡ at old name
LeadsThrough {E} at (change ∷ changes) old new = (next : E) × Leads at change old next × LeadsThrough at changes next new

-- what a change that touches a name says of it: the source that stands there from then on, or that none does
abbrev pub said_of : {S : Type 0} → List ℕ → Change S → Option (Option S)
said_of name (added other source) = if bytes_eq other name then Some (Some source) else None
said_of name (refused other source) = None
said_of name (removed other) = if bytes_eq other name then Some None else None
said_of name cleared = Some None

-- no change touches the name
abbrev pub LeaveAlone : {S : Type 0} → List ℕ → List (Change S) → Type 0
LeaveAlone name changes = All (λ change. said_of name change ≡ None) changes

-- the last change that touches the name says this of it
pub record SayLast {S : Type 0} (name : List ℕ) (changes : List (Change S)) (said : Option S) : Type 0 where
  pub before : List (Change S)
  pub last : Change S
  pub after : List (Change S)
  pub are : changes ≡ before ++ last ∷ after
  pub says : said_of name last ≡ Some said
  pub alone : LeaveAlone name after

-- the changes but for the refused ones
abbrev pub accepted : {S : Type 0} → List (Change S) → List (Change S)
accepted [] = []
accepted (refused name source ∷ changes) = accepted changes
accepted (change ∷ changes) = change ∷ accepted changes
