-- The trees in a list of statements.
use Rattle.std.specs.Prelude.{List, [], ◌∷◌}
use Rattle.template_compiler_tree.specs.Tree.{Statements, no_statements, statements_more}
use Rattle.template_compiler_tree_statements.specs.View.{statement_of}
use Rattle.template_compiler_tree_statements.specs.declared.statements.Stmt.{Stmt}

abbrev pub statements_in : List Stmt → Statements
statements_in [] = no_statements
statements_in (statement ∷ rest) = statements_more (statement_of statement) (statements_in rest)
