use Rattle.std.proofs.Common.{◌≡◌, true, false, ◌&&◌, Some, sym, ap, ◌∙◌, rules}
use Rattle.template_compiler_tree.specs.Kinds.{is_self_name, is_empty}
use Rattle.template_compiler_tree.specs.View.{arguments_in, expression_of}
use Rattle.template_compiler_tree.specs.declared.calls.Call.{Call as CallNode}
use Rattle.template_compiler_tree.specs.declared.expressions.GetAttr.{GetAttr as GetAttrNode}
use Rattle.template_compiler_tree.specs.declared.span.Spanned.{Spanned}
use Rattle.template_compiler_tree.specs.declared.expressions.Expr.{the_lemmas}
use Rattle.template_compiler_expression_codegen.proofs.CodedChains.{block_left, call_left, called_left, chain_left, method_left}
use Rattle.template_compiler_expression_codegen.proofs.coded.coded_left.Goals as goal

pub returns-in-Compare-clause-left : goal.returns-in-Compare-clause-left
returns-in-Compare-clause-left c = rw (c.in-Compare.is, c.deref-in-Compare.ensures) (chain_left c.in-Compare.n.value.node)

pub returns-then-is_block-clause-left : goal.returns-then-is_block-clause-left
returns-then-is_block-clause-left c =
    let n = c.in-Call.n in
    let m = c.in-GetAttr-expr.method in
    let args = arguments_in n.value.node.args.items in
    let called = c.deref.result.now.node.expr in
    let block : (is_self_name (expression_of m.value.node.expr) && is_empty args) ≡ true =
    ap (λ (g : Spanned GetAttrNode). is_self_name (expression_of g.node.expr) && is_empty args) (sym c.deref-in-GetAttr-expr.ensures) ∙
    ap (λ (s : Spanned CallNode). is_self_name (expression_of c.deref-in-GetAttr-expr.result.now.node.expr) && is_empty (arguments_in s.node.args.items)) (sym c.deref-in-GetAttr-expr-2.ensures) ∙
    sym c.is_block.ensures ∙ c.if-is_block.true in
    block_left called m args c.in-GetAttr-expr.is block ∙ call_left c.args.expr.now n called c.in-Call.is (ap (λ (s : Spanned CallNode). s.node.expr) c.deref.ensures)

pub returns-else-is_block-clause-left : goal.returns-else-is_block-clause-left
returns-else-is_block-clause-left c =
    let n = c.in-Call.n in
    let m = c.in-GetAttr-expr.method in
    let args = arguments_in n.value.node.args.items in
    let called = c.deref.result.now.node.expr in
    let no_block : (is_self_name (expression_of m.value.node.expr) && is_empty args) ≡ false =
    ap (λ (g : Spanned GetAttrNode). is_self_name (expression_of g.node.expr) && is_empty args) (sym c.deref-in-GetAttr-expr.ensures) ∙
    ap (λ (s : Spanned CallNode). is_self_name (expression_of c.deref-in-GetAttr-expr.result.now.node.expr) && is_empty (arguments_in s.node.args.items)) (sym c.deref-in-GetAttr-expr-2.ensures) ∙
    sym c.is_block.ensures ∙ c.if-is_block.false in
    ap (λ (g : Spanned GetAttrNode). Some (expression_of g.node.expr)) c.deref-in-GetAttr-expr.ensures ∙ method_left called m args c.in-GetAttr-expr.is no_block ∙
    call_left c.args.expr.now n called c.in-Call.is (ap (λ (s : Spanned CallNode). s.node.expr) c.deref.ensures)

pub returns-in_default : goal.returns-in_default
returns-in_default c = record {
  left = called_left c.args.expr.now c.in-Call.n c.deref.result.now.node.expr c.in-Call.is
      (ap (λ (s : Spanned CallNode). s.node.expr) c.deref.ensures) c.in_default.not-Var c.in_default.not-GetAttr;
  smaller = search (rules, the_lemmas);
}
