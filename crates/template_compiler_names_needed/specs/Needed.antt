-- The names that a template takes of its context.
use Rattle.std.specs.Prelude.{◌≡◌, ℕ, Bool, true, false, not, ◌&&◌, ◌||◌, List, [], ◌∷◌}
use Rattle.std.specs.Borrow.{Bor}
use Rattle.template_compiler_tree.specs.Tree.{Statement, Statements, from_import}
use Rattle.template_compiler_tree_statements.specs.declared.statements.Block.{Block}
use Rattle.template_compiler_tree_parts.specs.Listed.{statements_in}
use Rattle.template_machine_meaning.specs.Isolation.{is_needed, is_used_by_block, is_used_by_rounds}
use Rattle.template_compiler_names.specs.Among.{Among, is_among}
use Rattle.template_compiler_names.specs.Names.{Places, is_stored_everywhere, is_used, place_within}
use Rattle.template_compiler_names_closures.specs.Units.{Part, part_of, place_in_rounds, whole}
use Rattle.template_compiler_names_closures.specs.declared.parts.Unit.{Unit}
use Rattle.template_compiler_walk.specs.Blocks.{blocks_in}
use Rattle.template_compiler_walk.specs.Imported.{is_one_of}

-- as a test of names
abbrev pub needed_by : Statements → Among
needed_by tree name = is_needed name tree

-- a list of names has those that were there and those among the others
abbrev pub Takes : Among → List (Bor (List ℕ)) → List (Bor (List ℕ)) → Type 0
Takes among old new = (name : List ℕ) → is_among new name ≡ (is_among old name || among name)

-- one of the places is in the body of one of the blocks
abbrev pub place_in_blocks : Places → List (Bor Block) → Bool
place_in_blocks places [] = false
place_in_blocks places (b ∷ blocks) = place_within places (statements_in b.now.body.items) || place_in_blocks places blocks

-- or in one of the recursive loops among parts
abbrev pub place_in_loops : Places → List Unit → Bool
place_in_loops places [] = false
place_in_loops places (u ∷ units) = place_in_rounds places (part_of u) || place_in_loops places units

-- a part is a whole template, or one of the parts is
abbrev pub is_whole : Part → Bool
is_whole (whole body) = true
is_whole _ = false

abbrev pub has_whole : List Part → Bool
has_whole [] = false
has_whole (part ∷ parts) = is_whole part || has_whole parts

-- statements use the name, or one of the blocks or of the recursive loops in them does by itself
abbrev pub is_used_by_one : List ℕ → Statements → Bool
is_used_by_one name tree =
    (is_used name tree || is_used_by_block name (blocks_in tree)) || (not (is_stored_everywhere name) && is_used_by_rounds name tree)

-- the names that a statement imports itself
abbrev pub own_imports : Statement → Among
own_imports (from_import _ names) name = is_one_of name names
own_imports _ name = false
