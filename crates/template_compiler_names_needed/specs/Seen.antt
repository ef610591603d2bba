-- Blocks, as contracts see them.
use Rattle.std.specs.Prelude.{Bool, true, false, List, [], ◌∷◌, map}
use Rattle.std.specs.Borrow.{Bor}
use Rattle.template_compiler_tree_statements.specs.declared.statements.Block.{Block as BlockNode}
use Rattle.template_compiler_tree_parts.specs.Listed.{statements_in}
use Rattle.template_compiler_tree.specs.Tree.{Statement, template, block, macro, call_block}
use Rattle.template_compiler_walk.specs.Blocks.{Block}

abbrev pub tree_of : BlockNode → Block
tree_of b = record { name = b.name.now; required = b.required; body = statements_in b.body.items }

abbrev pub trees_in : List (Bor BlockNode) → List Block
trees_in = map (λ b. tree_of b.now)

-- the block that a statement is
abbrev pub own_blocks : Statement → List Block
own_blocks (block name required body) = record { name = name; required = required; body = body } ∷ []
own_blocks _ = []

-- no block stands in a macro, or in a template inside another
abbrev pub is_entered : Statement → Bool
is_entered (template _) = false
is_entered (macro _ _ _ _) = false
is_entered (call_block _ _ _ _ _) = false
is_entered _ = true
