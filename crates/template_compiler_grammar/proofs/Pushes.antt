-- Lists of nodes with one more at the end, and where they stand.
use Rattle.std.proofs.Common.{◌≡◌, List, [], ◌∷◌, ◌++◌, Option, None, Some, refl, ap}
use Rattle.template_compiler_tree.specs.View.{expression_of, optional_in, argument_of, arguments_in}
use Rattle.template_compiler_tree.specs.Tree.{expressions_more, links_more, arguments_more, imports_more, assignments_more}
use Rattle.template_compiler_tree.specs.declared.calls.CallArg.{CallArg}
use Rattle.template_compiler_tree.specs.declared.expressions.CompareOp.{CompareOp}
use Rattle.template_compiler_tree.specs.declared.expressions.Expr.{Expr}
use Rattle.template_compiler_tree.specs.NodePlaces.{parts_more, and_parts}
use Rattle.template_compiler_tree.specs.ExpressionPlaces.{places_of, places_of_argument, places_in_arguments}
use Rattle.template_compiler_grammar.specs.Trees.{followed_by}
use Rattle.template_compiler_grammar.specs.Nodes.{placed, and_node, and_placed_link}
use Rattle.template_compiler_grammar.specs.TemplateNodes.{and_placed_assignment, and_placed_import}
use Rattle.template_compiler_grammar.specs.Views.{node_of, optional_node_in, nodes_in, placed_links_in, placed_arguments_in, placed_assignments_in, placed_imports_in}

pub nodes_push : (xs : List Expr) (x : Expr) → nodes_in (xs ++ x ∷ []) ≡ and_node (nodes_in xs) (node_of x)
nodes_push [] x = refl
nodes_push (y ∷ xs) x =
    ap (λ es. placed (expressions_more (expression_of y) es.tree) (parts_more (places_of y) es.places)) (nodes_push xs x)

pub placed_links_push : (xs : List CompareOp) (x : CompareOp) →
    placed_links_in (xs ++ x ∷ []) ≡ and_placed_link (placed_links_in xs) x.op (node_of x.expr)
placed_links_push [] x = refl
placed_links_push (y ∷ xs) x =
    ap (λ ls. placed (links_more y.op (expression_of y.expr) ls.tree) (parts_more (places_of y.expr) ls.places)) (placed_links_push xs x)

pub placed_arguments_append : (xs ys : List CallArg) →
    placed_arguments_in (xs ++ ys) ≡
    placed (followed_by (arguments_in xs) (arguments_in ys)) (and_parts (places_in_arguments xs) (places_in_arguments ys))
placed_arguments_append [] ys = refl
placed_arguments_append (x ∷ xs) ys =
    ap (λ args. placed (arguments_more (argument_of x) args.tree) (parts_more (places_of_argument x) args.places)) (placed_arguments_append xs ys)

pub placed_imports_push : (xs : List (Expr × Option Expr)) (x : Expr × Option Expr) →
    placed_imports_in (xs ++ x ∷ []) ≡ and_placed_import (placed_imports_in xs) (node_of x.0) (optional_node_in x.1)
placed_imports_push [] (n, None) = refl
placed_imports_push [] (n, Some a) = refl
placed_imports_push ((n, None) ∷ ys) x =
    ap (λ is. placed (imports_more (expression_of n) (optional_in None) is.tree) (parts_more (places_of n) is.places)) (placed_imports_push ys x)
placed_imports_push ((n, Some a) ∷ ys) x =
    ap (λ is. placed (imports_more (expression_of n) (optional_in (Some a)) is.tree) (parts_more (places_of n) (parts_more (places_of a) is.places)))
    (placed_imports_push ys x)

pub placed_assignments_push : (xs : List (Expr × Expr)) (x : Expr × Expr) →
    placed_assignments_in (xs ++ x ∷ []) ≡ and_placed_assignment (placed_assignments_in xs) (node_of x.0) (node_of x.1)
placed_assignments_push [] x = refl
placed_assignments_push (y ∷ ys) x =
    ap (λ gs. placed (assignments_more (expression_of y.0) (expression_of y.1) gs.tree) (parts_more (places_of y.0) (parts_more (places_of y.1) gs.places)))
    (placed_assignments_push ys x)
