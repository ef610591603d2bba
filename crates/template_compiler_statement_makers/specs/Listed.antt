-- The trees in a list of statements, and those with their places.
use Rattle.std.specs.Prelude.{List, [], ◌∷◌}
use Rattle.template_compiler_tree.specs.Tree.{Statements, no_statements, statements_more}
use Rattle.template_compiler_tree_statements.specs.View.{statement_of}
use Rattle.template_compiler_tree_statements.specs.declared.statements.Stmt.{Stmt}
use Rattle.template_compiler_grammar.specs.Nodes.{placed}
use Rattle.template_compiler_grammar.specs.TemplateNodes.{PlacedStatements}
use Rattle.template_compiler_grammar.specs.TreeStatements.{places_of_statements}

abbrev pub statements_in : List Stmt → Statements
statements_in [] = no_statements
statements_in (statement ∷ rest) = statements_more (statement_of statement) (statements_in rest)

abbrev pub statement_nodes_in : List Stmt → PlacedStatements
statement_nodes_in ss = placed (statements_in ss) (places_of_statements ss)
