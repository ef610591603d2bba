-- Which templates are kept: those that the main one reaches, and those that can be read.
use Rattle.std.specs.Prelude.{◌≡◌, ◌⊎◌, ℕ, ◌<◌, ◌^◌, List, [], ◌∷◌, length, None}
use Rattle.template_compiler_tree.specs.Tree.{Statement}
use Rattle.template_compiler_syntax.specs.Syntax.{Syntax}
use Rattle.template_compiler_sources.specs.Source.{IsSource}
use Rattle.template_program_reached.specs.Reached.{IsReached, source_under}

-- the source is not too large, and has a tree
pub record IsReadable (x : Syntax) (source : List ℕ) : Type 0 where
  pub small : length source < 2 ^ 32
  pub tree : Statement
  pub read : IsSource x source tree

-- no later template has its name, and it is reached or can be read
pub record IsKept (x : Syntax) (all : List (List ℕ × List ℕ)) (main : List ℕ) (later : List (List ℕ × List ℕ))
    (t : List ℕ × List ℕ) : Type 0 where
  pub last : source_under later t.0 ≡ None
  pub reason : IsReached x all main t.0 ⊎ IsReadable x t.1

-- those of the templates that are kept, in their order
pub data Sifts (x : Syntax) (all : List (List ℕ × List ℕ)) (main : List ℕ) : List (List ℕ × List ℕ) → List (List ℕ × List ℕ) → Type 0 where
  no_more : Sifts x all main [] []
  kept : {t : List ℕ × List ℕ} {later left : List (List ℕ × List ℕ)} → IsKept x all main later t → Sifts x all main later left →
      Sifts x all main (t ∷ later) (t ∷ left)
  dropped : {t : List ℕ × List ℕ} {later left : List (List ℕ × List ℕ)} → (IsKept x all main later t → ⊥) → Sifts x all main later left →
      Sifts x all main (t ∷ later) left
