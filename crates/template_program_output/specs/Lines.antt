-- Fault lines.
use Rattle.std.specs.Prelude.{ℕ, List, [], ◌∷◌, ◌++◌, codes}
use Rattle.template_values_errors.specs.Names.{causes_text, kinds_text}
use Rattle.template_values_errors.specs.declared.ErrorKind.{ErrorKind}

-- `fault: `, a word, and a newline
abbrev pub fault_line : List ℕ → List ℕ
fault_line word = codes "fault: " ++ word ++ 10 ∷ []

-- the line of an error: its kinds, outermost first, joined by `: `
abbrev pub error_line : List ErrorKind → List ℕ
error_line kinds = fault_line (kinds_text kinds)

-- the words of the causes of an error
abbrev pub causes_behind : List ErrorKind → List ℕ
causes_behind [] = []
causes_behind (kind ∷ causes) = causes_text causes
