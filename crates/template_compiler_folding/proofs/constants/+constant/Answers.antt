use Rattle.std.proofs.Common.{◌<◌, List as Items, None, length, sym, ap, ◌∙◌, arith, rules}
use Rattle.template_compiler_tree.specs.Tree.{chain}
use Rattle.template_compiler_tree.specs.View.{expression_of, links_in}
use Rattle.template_compiler_tree.specs.declared.expressions.Compare.{Compare, out-Compare}
use Rattle.template_compiler_tree.specs.declared.expressions.CompareOp.{CompareOp}
use Rattle.template_compiler_tree.specs.declared.expressions.Expr.{Expr, the_lemmas}
use Rattle.template_compiler_tree.proofs.Rows.{expressions_row}
use Rattle.template_compiler_tree_parts.proofs.Trees.{chain_tree}
use Rattle.template_compiler_tree.specs.declared.span.Spanned.{Spanned}
use Rattle.template_compiler_tree_parts.proofs.Walks.{walked}
use Rattle.template_compiler_walk.specs.Constants.{constant_of}
use Rattle.template_compiler_folding.specs.Nodes.{node_constant}
use Rattle.template_compiler_folding.proofs.Along.{node_step}
use Rattle.template_compiler_folding.proofs.Chains.{link_ends, link_goes}
use Rattle.template_compiler_folding.proofs.constants.+constant.Goals as goal

pub as_const-returns-clause-constant : goal.as_const-returns-clause-constant
as_const-returns-clause-constant t c =
    walked constant_of node_constant None node_step c.in_ok-nodes.nodes.items (expression_of c.args.expr.now) c.loop-i.i c.loop-i.constant
    c.in_ok-nodes.ensures.nodes (omega arith) c.loop-i.invariant

pub node_constant-returns-in-Compare-clause-constant : goal.node_constant-returns-in-Compare-clause-constant
node_constant-returns-in-Compare-clause-constant t c =
    let n = c.in-Compare.n in
    let read = c.deref-in-Compare-2.ensures.value ∙ ap (λ (x : Spanned Compare). (out-Compare x.node).ops.items) c.deref-in-Compare.ensures in
    let tree = ap (λ (x : Expr). expression_of x) c.in-Compare.is ∙ chain_tree n.value.node ∙
    ap (λ (ls : Items CompareOp). chain (expression_of (out-Compare n.value.node).expr) (links_in ls)) (sym read) in
    rw tree c.chain_constant.ensures.constant

pub node_constant-returns-in-List-clause-constant : goal.node_constant-returns-in-List-clause-constant
node_constant-returns-in-List-clause-constant t c = search (rules, the_lemmas, expressions_row)

pub node_constant-returns-in-Tuple-clause-constant : goal.node_constant-returns-in-Tuple-clause-constant
node_constant-returns-in-Tuple-clause-constant t c = search (rules, the_lemmas, expressions_row)

pub node_constant-returns-in-Map-clause-constant : goal.node_constant-returns-in-Map-clause-constant
node_constant-returns-in-Map-clause-constant t c = search (rules, the_lemmas, expressions_row)

pub chain_constant-loop-link-preserved : goal.chain_constant-loop-link-preserved
chain_constant-loop-link-preserved t c =
    let ls = c.args.links.now in
    let within : c.loop-link.link-index < length ls = omega arith in
    link_goes ls c.loop-link.link-index c.link-item.result c.loop-link.holds c.loop-link.left c.in_ok-right.right c.in_ok-holds.holds within c.link-item.is
    c.in_ok-right.ensures.constant c.in_ok-holds.ensures.folded (sym c.goes_on.ensures ∙ c.if-not-goes_on.false) ∙ c.loop-link.invariant

pub chain_constant-returns-then-not-goes_on-clause-constant : goal.chain_constant-returns-then-not-goes_on-clause-constant
chain_constant-returns-then-not-goes_on-clause-constant t c =
    let ls = c.args.links.now in
    let within : c.loop-link.link-index < length ls = omega arith in
    link_ends ls c.loop-link.link-index c.link-item.result c.loop-link.holds c.loop-link.left c.in_ok-right.right c.in_ok-holds.holds within c.link-item.is
    c.in_ok-right.ensures.constant c.in_ok-holds.ensures.folded (sym c.goes_on.ensures ∙ c.if-not-goes_on.true) ∙ c.loop-link.invariant
