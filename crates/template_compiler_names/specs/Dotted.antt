-- The dotted names behind a part of an expression.
use Rattle.std.specs.Prelude.{ℕ, List, [], ◌∷◌}
use Rattle.std.specs.Borrow.{Bor}
use Rattle.template_compiler_tree.specs.Tree.{Expression, attribute}

-- dotted names that were put down from the last to the first
abbrev pub gathered : List (Bor (List ℕ)) → List (List ℕ) → List (List ℕ)
gathered [] fields = fields
gathered (field ∷ more) fields = gathered more (field.now ∷ fields)

abbrev pub fields_of : List (Bor (List ℕ)) → List (List ℕ)
fields_of behind = gathered behind []

-- those behind the left part of an expression that has these behind it: an attribute alone adds its name
abbrev pub fields_left : Expression → List (List ℕ) → List (List ℕ)
fields_left (attribute e field) fields = field ∷ fields
fields_left _ fields = []
