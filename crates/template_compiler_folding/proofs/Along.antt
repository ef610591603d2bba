-- Along a left chain: each node makes its constant of that of its left part.
use Rattle.std.proofs.Common.{◌≡◌, List, Option, None, Bor, refl}
use Rattle.std.specs.List.{fold}
use Rattle.template_values_model.specs.Val.{Val}
use Rattle.template_compiler_tree.specs.Tree.{Expression, variable, constant, unary, binary, chain, conditional, filtered, tested, attribute, item, call, list_literal, tuple_literal, map_literal}
use Rattle.template_compiler_tree.specs.Tree as tree
use Rattle.template_compiler_tree.specs.View.{expression_of}
use Rattle.template_compiler_tree.specs.declared.expressions.Expr.{Expr}
use Rattle.template_compiler_tree_parts.specs.Spine.{left_of, before}
use Rattle.template_compiler_walk.specs.Constants.{constant_of}
use Rattle.template_compiler_folding.specs.Nodes.{node_constant}

pub node_step : (e : Expression) → constant_of e ≡ node_constant (before constant_of None (left_of e)) e
node_step (variable name) = refl
node_step (constant v) = refl
node_step (tree.slice e start stop by) = refl
node_step (unary op e) = refl
node_step (binary op l r) = refl
node_step (chain first links) = refl
node_step (conditional test branch otherwise) = refl
node_step (filtered name value args) = refl
node_step (tested name e args) = refl
node_step (attribute e name) = refl
node_step (item e key) = refl
node_step (call e args) = refl
node_step (list_literal es) = refl
node_step (tuple_literal es) = refl
node_step (map_literal ks vs) = refl

-- the constant of the nodes so far
abbrev pub so_far : List (Bor Expr) → Option Val
so_far ns = fold (λ k (n : Bor Expr). node_constant k (expression_of n.now)) None ns
