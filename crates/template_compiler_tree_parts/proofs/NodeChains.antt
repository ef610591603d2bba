-- The left part of a chain of comparisons.
use Rattle.std.proofs.Common.{◌≡◌, Some, Option, refl}
use denote.Hole.Carrier.{out}
use Rattle.template_compiler_tree.specs.Tree.{Expression}
use Rattle.template_compiler_tree.specs.View.{expression_of, chain_of}
use Rattle.template_compiler_tree.specs.declared.expressions.Compare.{Compare, Compare' as compared, out-Compare}
use Rattle.template_compiler_tree_parts.specs.Left.{left_of}

pub chain_left : (c : Compare) → ◌≡◌ {A = Option Expression} (Some (expression_of (out-Compare c).expr)) (left_of (chain_of c))
unfolding out-Compare out
chain_left (compared expr shape ops) = refl
