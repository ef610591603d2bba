-- Which templates a main one reaches. A template is a name with its source.
use Rattle.std.specs.Prelude.{◌≡◌, ℕ, if◌then◌else◌, bytes_eq, List, [], ◌∷◌, Option, None, Some}
use Rattle.std.specs.Option.{option_or}
use Rattle.template_compiler_syntax.specs.Syntax.{Syntax}
use Rattle.template_program_reached.specs.Loaded.{IsLoaded}

-- the source of the last template of the name
abbrev pub source_under : List (List ℕ × List ℕ) → List ℕ → Option (List ℕ)
source_under [] name = None
source_under (t ∷ later) name = option_or (source_under later name) (if bytes_eq t.0 name then Some t.1 else None)

-- the template of one name loads another one by its name
pub record Loads (x : Syntax) (texts : List (List ℕ × List ℕ)) (from to : List ℕ) : Type 0 where
  pub source : List ℕ
  pub stands : source_under texts from ≡ Some source
  pub loaded : IsLoaded x source to

-- each loads the next, from the first name along those in between to the last name
abbrev pub IsPath : Syntax → List (List ℕ × List ℕ) → List ℕ → List (List ℕ) → List ℕ → Type 0
IsPath x texts from [] to = from ≡ to
IsPath x texts from (next ∷ names) to = Loads x texts from next × IsPath x texts next names to

-- the main template reaches the one of the name; it reaches itself
pub record IsReached (x : Syntax) (texts : List (List ℕ × List ℕ)) (main name : List ℕ) : Type 0 where
  pub names : List (List ℕ)
  pub path : IsPath x texts main names name
