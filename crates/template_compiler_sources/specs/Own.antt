-- The name that a statement gives, where it is a block.
use Rattle.std.specs.Prelude.{ℕ, List, [], ◌∷◌}
use Rattle.template_compiler_tree.specs.Tree.{Statement, block}

abbrev pub own_name : Statement → List (List ℕ)
own_name (block name _ _) = name ∷ []
own_name _ = []
