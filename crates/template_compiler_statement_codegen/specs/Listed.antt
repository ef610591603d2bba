-- The trees in the nodes of conditions and of whole templates, and how deep bodies are.
use Rattle.std.specs.Prelude.{ℕ, max, List, [], ◌∷◌}
use Rattle.template_compiler_tree.specs.Tree.{Statement, Statements, no_statements, template, if_condition}
use Rattle.template_compiler_tree.specs.View.{expression_of}
use Rattle.template_compiler_tree_statements.specs.declared.statements.IfCond.{IfCond}
use Rattle.template_compiler_tree_statements.specs.declared.statements.Stmt.{Stmt, size-Stmt}
use Rattle.template_compiler_tree_parts.specs.Listed.{statements_in}
use Rattle.template_compiler_walk.specs.Runnable.{IsRunnableTemplate}

-- a condition with what belongs to it
abbrev pub condition_of : IfCond → Statement
condition_of c =
    if_condition (expression_of c.expr) (statements_in c.true_body.items) (statements_in c.false_body.items)

-- the statements of a whole template
abbrev pub body_in : Statement → Statements
body_in (template body) = body
body_in _ = no_statements

-- a whole template whose constructs have a walk
abbrev pub IsRunnableTree : Statement → Type 0
IsRunnableTree (template body) = IsRunnableTemplate body
IsRunnableTree _ = ⊥

-- how deep the deepest statement is
abbrev pub body_deep : List Stmt → ℕ
body_deep [] = 0
body_deep (statement ∷ rest) = max (size-Stmt statement) (body_deep rest)

abbrev pub condition_deep : IfCond → ℕ
condition_deep c = max (body_deep c.true_body.items) (body_deep c.false_body.items)
