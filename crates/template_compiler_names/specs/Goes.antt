-- How the texts that are found and the names that are known grow while a tree is gone over.
use Rattle.std.specs.Prelude.{◌≡◌, ℕ, Bool, true, false, not, ◌&&◌, ◌||◌, ◌⊎◌, ◌↔◌, IsTrue, List, [], ◌∷◌, ◌++◌, length, take, bytes_eq}
use Rattle.std.specs.Borrow.{Bor}
use Rattle.std.specs.List.{list_any}
use Rattle.std.specs.Ordering.{nat_cmp}
use Rattle.std.specs.Cmp.Lexicographic.{slice_cmp}
use Rattle.std.specs.BTreeSet.{BTreeSet, contains_by, contains_text}
use Rattle.template_compiler_names.specs.Names.{IsToldFor, Places}
use Rattle.template_compiler_names.specs.declared.state.Around.{Around}
use Rattle.template_compiler_names.specs.declared.state.Names.{Names}
use Rattle.template_compiler_names.specs.Among.{Among, is_among}

abbrev pub has : BTreeSet (Bor (List ℕ)) → Among
has set name = contains_by (λ other. slice_cmp nat_cmp name other.now) set

-- the texts that are found
abbrev pub tells : Names → Among
tells names text = is_among names.first.items text || contains_text names.found text

-- stored in the region where the walk is, or in one around it: the names beyond the first few
abbrev pub knows_further : Names → Among
knows_further names name = list_any (λ region. has region name) names.outer.items || has names.here name

-- and all of them
abbrev pub knows : Names → Among
knows names name = is_among names.few.items name || knows_further names name

-- which places of use
abbrev pub no_place : Places → Bool
no_place places = false

-- the place of a name with these dotted names behind it
abbrev pub place : List ℕ → List (List ℕ) → Places → Bool
place id fields places = places.counts fields && bytes_eq id places.name

-- the text is told for a place of use whose name was not known
abbrev pub IsFound : Names → (Places → Bool) → List ℕ → Type 0
IsFound names uses text =
    (places : Places) × IsToldFor names.nested text places × IsTrue (not (knows names places.name) && uses places)

-- what is used is found unless its name was known, and what is stored is known from then on
pub record Goes (uses : Places → Bool) (stores : Among) (old new : Names) : Type 0 where
  pub found : (text : List ℕ) → IsTrue (tells new text) ↔ (IsTrue (tells old text) ⊎ IsFound old uses text)
  pub knows : (name : List ℕ) → knows new name ≡ (knows old name || stores name)
  pub few : (stored : List (Bor (List ℕ))) × (new.few.items ≡ old.few.items ++ stored)
  pub outer : new.outer.items ≡ old.outer.items
  pub nested : new.nested ≡ old.nested

-- nothing is found or stored but in sets of regions
pub record Keeps (old new : Names) : Type 0 where
  pub found : (text : List ℕ) → tells new text ≡ tells old text
  pub nested : new.nested ≡ old.nested

-- the set of the region is put aside, and an empty one stands for it
pub record PutsAside (old new : Names) : Type 0 where
  pub keeps : Keeps old new
  pub few : new.few.items ≡ old.few.items
  pub here : (name : List ℕ) → has new.here name ≡ false
  pub outer : new.outer.items ≡ old.outer.items ++ old.here ∷ []

-- and it is the set of the region again
pub record TakesBack (old new : Names) : Type 0 where
  pub keeps : Keeps old new
  pub few : new.few.items ≡ old.few.items
  pub around : (regions : List (BTreeSet (Bor (List ℕ)))) (region : BTreeSet (Bor (List ℕ))) →
      old.outer.items ≡ regions ++ region ∷ [] → (new.outer.items ≡ regions) × (new.here ≡ region)

-- a region begins: what was stored in a set is put aside, if there is any
abbrev pub IsAside : Bool → Names → Names → Type 0
IsAside true old new = new.outer.items ≡ old.outer.items ++ old.here ∷ []
IsAside false old new = (new.outer.items ≡ old.outer.items) × ((name : List ℕ) → has old.here name ≡ false)

pub record Opens (old new : Names) (around : Around) : Type 0 where
  pub keeps : Keeps old new
  pub few : new.few.items ≡ old.few.items
  pub count : around.few ≡ length old.few.items
  pub here : (name : List ℕ) → has new.here name ≡ false
  pub aside : IsAside around.aside old new

-- it ends, and what it has stored is forgotten
abbrev pub IsBack : Bool → Names → Names → Type 0
IsBack true old new =
    (regions : List (BTreeSet (Bor (List ℕ)))) (region : BTreeSet (Bor (List ℕ))) →
    old.outer.items ≡ regions ++ region ∷ [] → (new.outer.items ≡ regions) × (new.here ≡ region)
IsBack false old new = (new.outer.items ≡ old.outer.items) × ((name : List ℕ) → has new.here name ≡ false)

pub record Closes (around : Around) (old new : Names) : Type 0 where
  pub keeps : Keeps old new
  pub few : new.few.items ≡ take around.few old.few.items
  pub back : IsBack around.aside old new
