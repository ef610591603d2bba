-- The bodies of a statement: an `elif` is the one statement of an `if`'s else part.
use Rattle.std.specs.Prelude.{ℕ, suc, max, List, [], ◌∷◌}
use Rattle.template_compiler_tree.specs.Tree.{Statement, Statements, template, for_loop, if_condition, with_block, set_block, auto_escape, filter_block, block, macro, call_block, no_statements}
use Rattle.template_compiler_tree_statements.specs.declared.statements.Stmt.{Stmt, size-Stmt}

-- its body; of a loop and of an `if` the first one
abbrev pub body_in : Statement → Statements
body_in (template body) = body
body_in (for_loop _ _ _ _ body _) = body
body_in (if_condition _ body _) = body
body_in (with_block _ body) = body
body_in (set_block _ _ body) = body
body_in (auto_escape _ body) = body
body_in (filter_block _ body) = body
body_in (block _ _ body) = body
body_in (macro _ _ _ body) = body
body_in (call_block _ _ _ _ body) = body
body_in _ = no_statements

-- its else part
abbrev pub other_in : Statement → Statements
other_in (for_loop _ _ _ _ _ otherwise) = otherwise
other_in (if_condition _ _ otherwise) = otherwise
other_in _ = no_statements

-- one more than the deepest statement is deep
abbrev pub body_deep : List Stmt → ℕ
body_deep [] = 0
body_deep (statement ∷ rest) = max (suc (size-Stmt statement)) (body_deep rest)
