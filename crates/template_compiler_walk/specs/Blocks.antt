-- The blocks of a template: each runs where it is called, and not only where it stands.
use Rattle.std.specs.Prelude.{ℕ, Bool, List, [], ◌∷◌, ◌++◌, Option, None, Some, if◌then◌else◌}
use Rattle.std.specs.Str.{bytes_eq}
use Rattle.template_compiler_tree.specs.Tree.{Statement, Statements, for_loop, if_condition, with_block, set_block, auto_escape, filter_block, block, no_statements, statements_more}

-- a block: its name, whether a template that extends this one has to give a body of its own, and its body here
pub record Block : Type 0 where
  pub name : List ℕ
  pub required : Bool
  pub body : Statements

abbrev mutual
  -- those that stand in it, also within others, in order; none stands in a macro
  pub blocks_by : Statement → List Block
  blocks_by (for_loop _ _ _ _ body otherwise) = blocks_in body ++ blocks_in otherwise
  blocks_by (if_condition _ body otherwise) = blocks_in body ++ blocks_in otherwise
  blocks_by (with_block _ body) = blocks_in body
  blocks_by (set_block _ _ body) = blocks_in body
  blocks_by (auto_escape _ body) = blocks_in body
  blocks_by (filter_block _ body) = blocks_in body
  blocks_by (block name required body) = record { name = name; required = required; body = body } ∷ blocks_in body
  blocks_by _ = []

  pub blocks_in : Statements → List Block
  blocks_in no_statements = []
  blocks_in (statements_more s ss) = blocks_by s ++ blocks_in ss

-- the one of a name
abbrev pub block_among : List ℕ → List Block → Option Block
block_among name [] = None
block_among name (b ∷ bs) = if bytes_eq b.name name then Some b else block_among name bs

abbrev pub block_named : List ℕ → Statements → Option Block
block_named name tree = block_among name (blocks_in tree)
