use Rattle.std.proofs.Common.{◌≡◌, true, false, ◌&&◌, Some, sym, ap, subst, ◌∙◌}
use Rattle.std.proofs.lemmas.Result.{on_ok_weaker}
use Rattle.template_compiler_tree.specs.Kinds.{is_self_name, is_empty}
use Rattle.template_compiler_tree.specs.View.{arguments_in, expression_of}
use Rattle.template_compiler_tree.specs.declared.expressions.Expr.{Expr}
use Rattle.template_compiler_tree.specs.declared.expressions.GetAttr.{GetAttr as GetAttrNode}
use Rattle.template_compiler_tree.specs.declared.span.Spanned.{Spanned}
use Rattle.template_compiler_walk.specs.Runnable.{IsRunnable}
use Rattle.template_compiler_expression_codegen.proofs.Arguments.{puts_whole_block}
use Rattle.template_compiler_expression_codegen.proofs.CodedChains.{method_left, value_left}
use Rattle.template_compiler_expression_codegen.proofs.whole.put_call.Goals as goal

pub put_behind-requires : goal.put_behind-requires
put_behind-requires c =
    let called = c.args.call.now.expr in
    let args = arguments_in c.args.call.now.args.items in
    let m = c.in-GetAttr.method in
    let no_block : (is_self_name (expression_of m.value.node.expr) && is_empty args) ≡ false =
    ap (λ (g : Spanned GetAttrNode). is_self_name (expression_of g.node.expr) && is_empty args) (sym c.deref.ensures) ∙
    sym c.is_block.ensures ∙ c.if-is_block.false in
    record {
      runs = c.requires;
      part = subst (λ (g : Spanned GetAttrNode). IsRunnable (expression_of g.node.expr)) (sym c.deref.ensures)
          (subst (λ (x : Expr). IsRunnable (expression_of x)) c.in-GetAttr.is c.requires.0);
      left = ap (λ (g : Spanned GetAttrNode). Some (expression_of g.node.expr)) c.deref.ensures ∙ method_left called m args c.in-GetAttr.is no_block;
    }

pub returns-then-is_block-clause-put : goal.returns-then-is_block-clause-put
returns-then-is_block-clause-put c =
    let called = c.args.call.now.expr in
    let args = arguments_in c.args.call.now.args.items in
    let m = c.in-GetAttr.method in
    let block : (is_self_name (expression_of m.value.node.expr) && is_empty args) ≡ true =
    ap (λ (g : Spanned GetAttrNode). is_self_name (expression_of g.node.expr) && is_empty args) (sym c.deref.ensures) ∙
    sym c.is_block.ensures ∙ c.if-is_block.true in
    on_ok_weaker c.compile_call-then-is_block.result (λ put.
    puts_whole_block called m args c.args.code.now c.compile_call-then-is_block.new.code c.in-GetAttr.is block put) c.compile_call-then-is_block.ensures.put

pub put_behind-requires-in_default : goal.put_behind-requires-in_default
put_behind-requires-in_default c = record {
  runs = c.requires;
  part = c.requires.0;
  left = value_left c.args.call.now.expr (arguments_in c.args.call.now.args.items) c.in_default.not-Var c.in_default.not-GetAttr;
}
