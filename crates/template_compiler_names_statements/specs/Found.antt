-- The names that a tree uses.
use Rattle.std.specs.Prelude.{ℕ, Bool, not, ◌&&◌, ◌||◌, ◌↔◌, List, String, IsTrue}
use Rattle.std.specs.BTreeSet.{BTreeSet, contains_text}
use Rattle.template_compiler_tree.specs.Tree.{Statement, template}
use Rattle.template_compiler_names.specs.Names.{IsToldFor, Places, anywhere, is_stored_everywhere, place_by, uses_place}
pub use Rattle.template_compiler_names.specs.Among.{Adds}
use Rattle.template_compiler_names.specs.Among.{Among}

-- whether one of the places is in the tree, and used; of a whole template `uses_place` says it
abbrev pub has_place : Statement → Places → Bool
has_place (template body) places = uses_place places body
has_place s places = not (is_stored_everywhere places.name) && place_by places s

-- whether the tree uses the name
abbrev pub uses : Statement → List ℕ → Bool
uses s name = has_place s (anywhere name)

-- the set has the texts that are told for the uses of the tree, and no others
abbrev pub HasJust : {A : Type 0} → Bool → Statement → BTreeSet (String A) → Type 0
HasJust nested s names = (text : List ℕ) → IsTrue (contains_text names text)
    ↔ ((places : Places) × IsToldFor nested text places × IsTrue (has_place s places))

-- the set has the names that were there and those that the tree uses, and no others
abbrev pub AddsJust : {A : Type 0} → Statement → BTreeSet (String A) → BTreeSet (String A) → Type 0
AddsJust s old new = Adds (uses s) old new

-- the set keeps the names that were there, and what is new is among the others
pub record AddsSome {A : Type 0} (among : Among) (old new : BTreeSet (String A)) : Type 0 where
  pub kept : (name : List ℕ) → IsTrue (contains_text old name) → IsTrue (contains_text new name)
  pub others : (name : List ℕ) → IsTrue (contains_text new name) → IsTrue (contains_text old name || among name)
