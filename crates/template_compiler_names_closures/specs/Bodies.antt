-- The part that a statement is itself.
use Rattle.std.specs.Prelude.{Bool, true, false, List, [], ◌∷◌}
use Rattle.template_compiler_tree.specs.Tree.{Statement, template, for_loop, block}
use Rattle.template_compiler_names_closures.specs.Units.{Part, whole, block_body, rounds_of}

abbrev pub own_part : Statement → List Part
own_part (template body) = whole body ∷ []
own_part (for_loop target _ _ recursive body _) = rounds_of recursive target body
own_part (block _ _ body) = block_body body ∷ []
own_part _ = []

abbrev pub is_part : Statement → Bool
is_part (template _) = true
is_part (for_loop _ _ _ recursive _ _) = recursive
is_part (block _ _ _) = true
is_part _ = false
