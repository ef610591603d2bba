-- A node is gone to once it is reached along the left chain; other parts are smaller than the node.
use Rattle.std.proofs.Common.{◌≡◌, ◌+◌, ◌-◌, ◌*◌, length, take, drop}
use Rattle.std.specs.Prelude.{option_and_then}
use Rattle.template_compiler_tree.specs.View.{links_in}
use Rattle.template_compiler_tree.specs.declared.expressions.Expr.{size-Expr}
use Rattle.template_compiler_walk.specs.Constants.{chain_constant}
use Rattle.template_compiler_folding.specs.Nodes.{constant_from}
use Rattle.template_compiler_folding.proofs.Along.{so_far}
use Rattle.template_compiler_folding.proofs.constants.+constant.Given as goal

abbrev pub decreases-as_const : goal.decreases-as_const
decreases-as_const l = 2 * size-Expr l.expr.now + 1

abbrev pub decreases-node_constant : goal.decreases-node_constant
decreases-node_constant l = 2 * size-Expr l.expr.now

abbrev pub decreases-operator_constant : goal.decreases-operator_constant
decreases-operator_constant l = 2 * size-Expr l.right.now + 2

abbrev pub decreases-chain_constant : goal.decreases-chain_constant
decreases-chain_constant l = 2 * goal.size-chain_constant l + 2

abbrev pub decreases-as_const-loop-i : goal.decreases-as_const-loop-i
decreases-as_const-loop-i l = length l.nodes.items - l.i

-- the constant of the nodes so far
abbrev pub invariant-as_const-loop-i : goal.invariant-as_const-loop-i
invariant-as_const-loop-i l = l.constant ≡ so_far (take l.i l.nodes.items)

-- the comparisons that are left make the constant of the chain
abbrev pub invariant-chain_constant-loop-link : goal.invariant-chain_constant-loop-link
invariant-chain_constant-loop-link l = constant_from l.holds l.left (links_in (drop l.link-index l.links))
    ≡ option_and_then (λ v. chain_constant v (links_in l.links)) l.fn.first
