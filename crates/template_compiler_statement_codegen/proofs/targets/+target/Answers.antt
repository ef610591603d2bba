use Rattle.std.proofs.Common.{◌<◌, length, ap, sym, subst, ◌∙◌, arith}
use Rattle.template_compiler_tree.specs.Tree.{Expression, list_literal}
use Rattle.template_compiler_tree.specs.View.{expression_of, expressions_in}
use Rattle.template_compiler_tree.specs.declared.expressions.Expr.{Expr}
use Rattle.template_compiler_tree.specs.declared.span.Spanned.{Spanned}
use Rattle.template_compiler_tree.specs.declared.expressions.List.{List as ListNode}
use Rattle.template_compiler_walk.specs.Runnable.{IsTarget}
use Rattle.template_compiler_walk.specs.Statements.{number_of}
use Rattle.template_compiler_code.specs.Code.{unpack_list}
use Rattle.template_compiler_codegen.specs.Expressions.{one}
use Rattle.template_compiler_emission.proofs.Putting.{puts_nothing, puts_then}
use Rattle.template_compiler_expression_codegen.proofs.Items.{number_is}
use Rattle.template_compiler_expression_codegen.proofs.Putting.{puts_as}
use Rattle.template_compiler_expression_codegen.proofs.Sizes.{item_deep}
use Rattle.template_compiler_expression_codegen.proofs.Trees.{list_deep, list_is}
use Rattle.template_compiler_statement_codegen.proofs.Unpacking.{chain_no_target, puts_target, puts_targets, target_at}
use Rattle.template_compiler_statement_codegen.proofs.targets.+target.Goals as goal

pub store-store_items-requires : goal.store-store_items-requires
store-store_items-requires t c =
    let read = c.deref-in-List.ensures.value ∙ ap (λ (l : Spanned ListNode). l.node.items.items) c.deref.ensures in
    let tree = list_is c.args.target.now c.in-List.n c.deref-in-List.result.now c.in-List.is read in
    let targets : IsTarget (list_literal (expressions_in c.deref-in-List.result.now)) = subst (λ (x : Expression). IsTarget x) tree c.requires in
    (omega (arith, list_deep c.args.target.now c.in-List.n c.deref-in-List.result.now c.in-List.is read, c.decreases), targets)

pub store-returns-in-List-clause-put : goal.store-returns-in-List-clause-put
store-returns-in-List-clause-put t c =
    let read = c.deref-in-List.ensures.value ∙ ap (λ (l : Spanned ListNode). l.node.items.items) c.deref.ensures in
    let tree = list_is c.args.target.now c.in-List.n c.deref-in-List.result.now c.in-List.is read in
    rw tree c.store_items.ensures.put

pub store-unreachable-requires-in-Compare : goal.store-unreachable-requires-in-Compare
store-unreachable-requires-in-Compare t c =
    chain_no_target c.in-Compare.field-0 (subst (λ (e : Expr). IsTarget (expression_of e)) c.in-Compare.is c.requires)

pub store_items-store-requires : goal.store_items-store-requires
store_items-store-requires t c =
    let es = c.args.targets.now in
    let within : c.loop-target.target-index < length es = omega arith in (
      omega (arith, item_deep es c.loop-target.target-index c.target-item.result within c.target-item.is, c.decreases),
      target_at es c.loop-target.target-index c.target-item.result c.requires within c.target-item.is,
    )

pub store_items-loop-target-init : goal.store_items-loop-target-init
store_items-loop-target-init t c =
    puts_then (puts_as (ap unpack_list (sym (number_is c.args.targets.now))) c.in_ok-put.ensures.put) (puts_nothing c.put.new.code)

pub store_items-loop-target-preserved : goal.store_items-loop-target-preserved
store_items-loop-target-preserved t c =
    let es = c.args.targets.now in
    let within : c.loop-target.target-index < length es = omega arith in
    puts_target (one (unpack_list (number_of (expressions_in es)))) es c.loop-target.target-index c.target-item.result within c.target-item.is
    c.loop-target.invariant c.in_ok-store.ensures.put

pub store_items-returns-clause-put : goal.store_items-returns-clause-put
store_items-returns-clause-put t c =
    puts_targets (one (unpack_list (number_of (expressions_in c.args.targets.now)))) c.args.targets.now c.loop-target.target-index (omega arith)
    c.loop-target.invariant

pub store-unreachable-requires : goal.store-unreachable-requires
store-unreachable-requires t c = subst (λ (e : Expr). IsTarget (expression_of e)) c.in-Const.is c.requires

pub store-unreachable-requires-in-Slice : goal.store-unreachable-requires-in-Slice
store-unreachable-requires-in-Slice t c = subst (λ (e : Expr). IsTarget (expression_of e)) c.in-Slice.is c.requires

pub store-unreachable-requires-in-UnaryOp : goal.store-unreachable-requires-in-UnaryOp
store-unreachable-requires-in-UnaryOp t c = subst (λ (e : Expr). IsTarget (expression_of e)) c.in-UnaryOp.is c.requires

pub store-unreachable-requires-in-BinOp : goal.store-unreachable-requires-in-BinOp
store-unreachable-requires-in-BinOp t c = subst (λ (e : Expr). IsTarget (expression_of e)) c.in-BinOp.is c.requires

pub store-unreachable-requires-in-IfExpr : goal.store-unreachable-requires-in-IfExpr
store-unreachable-requires-in-IfExpr t c = subst (λ (e : Expr). IsTarget (expression_of e)) c.in-IfExpr.is c.requires

pub store-unreachable-requires-in-Filter : goal.store-unreachable-requires-in-Filter
store-unreachable-requires-in-Filter t c = subst (λ (e : Expr). IsTarget (expression_of e)) c.in-Filter.is c.requires

pub store-unreachable-requires-in-Test : goal.store-unreachable-requires-in-Test
store-unreachable-requires-in-Test t c = subst (λ (e : Expr). IsTarget (expression_of e)) c.in-Test.is c.requires

pub store-unreachable-requires-in-GetItem : goal.store-unreachable-requires-in-GetItem
store-unreachable-requires-in-GetItem t c = subst (λ (e : Expr). IsTarget (expression_of e)) c.in-GetItem.is c.requires

pub store-unreachable-requires-in-Call : goal.store-unreachable-requires-in-Call
store-unreachable-requires-in-Call t c = subst (λ (e : Expr). IsTarget (expression_of e)) c.in-Call.is c.requires

pub store-unreachable-requires-in-Tuple : goal.store-unreachable-requires-in-Tuple
store-unreachable-requires-in-Tuple t c = subst (λ (e : Expr). IsTarget (expression_of e)) c.in-Tuple.is c.requires

pub store-unreachable-requires-in-Map : goal.store-unreachable-requires-in-Map
store-unreachable-requires-in-Map t c = subst (λ (e : Expr). IsTarget (expression_of e)) c.in-Map.is c.requires
