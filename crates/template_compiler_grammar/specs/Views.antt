-- Nodes with their places, as a parser puts them together.
use Rattle.std.specs.Prelude.{List, Option}
use Rattle.template_compiler_tree.specs.View.{expression_of, optional_in, expressions_in, links_in, argument_of, arguments_in}
use Rattle.template_compiler_tree.specs.declared.calls.CallArg.{CallArg}
use Rattle.template_compiler_tree.specs.declared.expressions.CompareOp.{CompareOp}
use Rattle.template_compiler_tree.specs.declared.expressions.Expr.{Expr}
use Rattle.template_compiler_tree.specs.ExpressionPlaces.{places_of, places_optional, places_in, places_in_links, places_of_argument, places_in_arguments}
use Rattle.template_compiler_tree_statements.specs.View.{assignments_in, imports_in, statement_of}
use Rattle.template_compiler_tree_statements.specs.declared.statements.Stmt.{Stmt}
use Rattle.template_compiler_grammar.specs.TemplateNodes.{PlacedAssignments, PlacedImports, PlacedStatement}
use Rattle.template_compiler_grammar.specs.TreeStatements.{places_of_assignments, places_of_imports, statement_places}
use Rattle.template_compiler_grammar.specs.Nodes.{placed, Node, OptionalNode, Nodes, PlacedLinks, PlacedArgument, PlacedArguments}

abbrev pub node_of : Expr → Node
node_of e = placed (expression_of e) (places_of e)

abbrev pub optional_node_in : Option Expr → OptionalNode
optional_node_in o = placed (optional_in o) (places_optional o)

abbrev pub nodes_in : List Expr → Nodes
nodes_in es = placed (expressions_in es) (places_in es)

abbrev pub placed_links_in : List CompareOp → PlacedLinks
placed_links_in ls = placed (links_in ls) (places_in_links ls)

abbrev pub placed_argument_of : CallArg → PlacedArgument
placed_argument_of a = placed (argument_of a) (places_of_argument a)

abbrev pub placed_arguments_in : List CallArg → PlacedArguments
placed_arguments_in args = placed (arguments_in args) (places_in_arguments args)

abbrev pub placed_imports_in : List (Expr × Option Expr) → PlacedImports
placed_imports_in is = placed (imports_in is) (places_of_imports is)

abbrev pub placed_assignments_in : List (Expr × Expr) → PlacedAssignments
placed_assignments_in gs = placed (assignments_in gs) (places_of_assignments gs)

abbrev pub statement_node_of : Stmt → PlacedStatement
statement_node_of s = placed (statement_of s) (statement_places s)
