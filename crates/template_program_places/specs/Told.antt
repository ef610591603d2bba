-- A fault line that more comes behind.
use Rattle.std.specs.Prelude.{ℕ, List, [], ◌∷◌, ◌++◌, codes}
use Rattle.template_program_output.specs.Shown.{Puts, Shown}

-- a text was written, and some text behind it, or a beginning of both where a write failed or memory was wanting
abbrev pub PutsBefore : Shown → Shown → List ℕ → Type 0
PutsBefore before after text = (more : List ℕ) × Puts before after (text ++ more)

-- the line of a place
abbrev pub place_line : List ℕ → List ℕ
place_line place = codes "  at " ++ (place ++ 10 ∷ [])
