use Rattle.std.proofs.Common.{List as Items, arith, refl, sym, ap, ◌∙◌}
use Rattle.template_compiler_tree.specs.View.{expression_of, expressions_in}
use Rattle.template_compiler_tree.specs.declared.expressions.List.{List as ListNode}
use Rattle.template_compiler_tree.specs.declared.span.Spanned.{Spanned}
use Rattle.template_compiler_tree.specs.declared.expressions.Expr.{Expr}
use Rattle.template_compiler_names.specs.Names.{is_stored_in, is_stored_in_one, place_in, place_in_target, place_in_targets}
use Rattle.template_compiler_names.proofs.Laws.{goes_as, goes_end, goes_item, goes_nowhere, goes_on}
use Rattle.template_compiler_names_statements.proofs.Storing.{assigns_none, stored_chain, stored_list, used_chain, used_list}
use Rattle.template_compiler_names_statements.proofs.targets.+assigned.Goals as goal

pub assign_target-returns-in-List : goal.assign_target-returns-in-List
assign_target-returns-in-List t c =
    let read = c.deref-in-List.ensures.value ∙ ap (λ (x : Spanned ListNode). x.node.items.items) c.deref.ensures in
    goes_on c.args.names.now c.assign_targets.new.names c.assign_targets.result
    (λ q. ap (λ (es : Items Expr). place_in_targets q (expressions_in es)) read ∙ used_list q c.args.target.now c.in-List.n c.in-List.is)
    (λ q. ap (λ (es : Items Expr). is_stored_in_one q (expressions_in es)) read ∙ stored_list q c.args.target.now c.in-List.n c.in-List.is)
    c.assign_targets.ensures

pub assign_target-returns-in-Compare : goal.assign_target-returns-in-Compare
assign_target-returns-in-Compare t c =
    goes_as (λ q. used_chain q c.args.target.now c.in-Compare.field-0 c.in-Compare.is)
    (λ q. stored_chain q c.args.target.now c.in-Compare.field-0 c.in-Compare.is) (goes_nowhere c.args.names.now)

pub assign_targets-loop-target-preserved : goal.assign_targets-loop-target-preserved
assign_targets-loop-target-preserved t c =
    goes_item (λ (e : Expr) places. place_in_target places (expression_of e)) (λ (e : Expr) name. is_stored_in name (expression_of e))
    (λ (es : Items Expr) places. place_in_targets places (expressions_in es)) (λ (es : Items Expr) name. is_stored_in_one name (expressions_in es))
    (λ e es q. refl) (λ e es q. refl)
    c.args.targets.now c.loop-target.target-index c.target-item.result c.loop-target.names c.assign_target.new.names (omega arith) c.target-item.is
    c.loop-target.invariant c.in_ok-assign_target.ensures

pub assign_targets-returns : goal.assign_targets-returns
assign_targets-returns t c =
    goes_end (λ (es : Items Expr) places. place_in_targets places (expressions_in es)) (λ (es : Items Expr) name. is_stored_in_one name (expressions_in es))
    (λ q. refl) (λ q. refl) c.args.targets.now c.loop-target.target-index c.loop-target.names c.loop-target-test.false c.loop-target.invariant

pub assign_target-returns-in-Var : goal.assign_target-returns-in-Var
assign_target-returns-in-Var t c =
    goes_on c.args.names.now c.store.new.self c.store.result (λ q. ap (λ (x : Expr). place_in_target q (expression_of x)) (sym c.in-Var.is))
    (λ q. ap (λ (x : Expr). is_stored_in q (expression_of x)) (sym c.in-Var.is)) c.store.ensures

pub assign_target-returns-in-GetAttr : goal.assign_target-returns-in-GetAttr
assign_target-returns-in-GetAttr t c =
    goes_on c.args.names.now c.use_expression.new.names c.use_expression.result
    (λ q. ap (λ (x : Expr). place_in q (expression_of x)) c.in-GetAttr.is ∙ ap (λ (x : Expr). place_in_target q (expression_of x)) (sym c.in-GetAttr.is))
    (λ q. ap (λ (x : Expr). is_stored_in q (expression_of x)) (sym c.in-GetAttr.is)) c.use_expression.ensures

pub assign_target-returns-in-Const : goal.assign_target-returns-in-Const
assign_target-returns-in-Const t c = assigns_none c.args.names.now c.in-Const.is (λ q. refl) (λ q. refl)

pub assign_target-returns-in-Slice : goal.assign_target-returns-in-Slice
assign_target-returns-in-Slice t c = assigns_none c.args.names.now c.in-Slice.is (λ q. refl) (λ q. refl)

pub assign_target-returns-in-UnaryOp : goal.assign_target-returns-in-UnaryOp
assign_target-returns-in-UnaryOp t c = assigns_none c.args.names.now c.in-UnaryOp.is (λ q. refl) (λ q. refl)

pub assign_target-returns-in-BinOp : goal.assign_target-returns-in-BinOp
assign_target-returns-in-BinOp t c = assigns_none c.args.names.now c.in-BinOp.is (λ q. refl) (λ q. refl)

pub assign_target-returns-in-IfExpr : goal.assign_target-returns-in-IfExpr
assign_target-returns-in-IfExpr t c = assigns_none c.args.names.now c.in-IfExpr.is (λ q. refl) (λ q. refl)

pub assign_target-returns-in-Filter : goal.assign_target-returns-in-Filter
assign_target-returns-in-Filter t c = assigns_none c.args.names.now c.in-Filter.is (λ q. refl) (λ q. refl)

pub assign_target-returns-in-Test : goal.assign_target-returns-in-Test
assign_target-returns-in-Test t c = assigns_none c.args.names.now c.in-Test.is (λ q. refl) (λ q. refl)

pub assign_target-returns-in-GetItem : goal.assign_target-returns-in-GetItem
assign_target-returns-in-GetItem t c = assigns_none c.args.names.now c.in-GetItem.is (λ q. refl) (λ q. refl)

pub assign_target-returns-in-Call : goal.assign_target-returns-in-Call
assign_target-returns-in-Call t c = assigns_none c.args.names.now c.in-Call.is (λ q. refl) (λ q. refl)

pub assign_target-returns-in-Tuple : goal.assign_target-returns-in-Tuple
assign_target-returns-in-Tuple t c = assigns_none c.args.names.now c.in-Tuple.is (λ q. refl) (λ q. refl)

pub assign_target-returns-in-Map : goal.assign_target-returns-in-Map
assign_target-returns-in-Map t c = assigns_none c.args.names.now c.in-Map.is (λ q. refl) (λ q. refl)
