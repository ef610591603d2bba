use Rattle.std.proofs.Common.{List as Items, arith, refl, sym, ap, ◌∙◌}
use Rattle.template_compiler_tree.specs.View.{expression_of, expressions_in}
use Rattle.template_compiler_tree.specs.declared.expressions.List.{List as ListNode}
use Rattle.template_compiler_tree.specs.declared.span.Spanned.{Spanned}
use Rattle.template_compiler_tree.specs.declared.expressions.Expr.{Expr}
use Rattle.template_compiler_names.specs.Names.{is_stored_in, is_stored_in_one}
use Rattle.template_compiler_names.specs.Goes.{no_place}
use Rattle.template_compiler_names.proofs.Laws.{goes_as, goes_end, goes_item, goes_nowhere, goes_on}
use Rattle.template_compiler_names_statements.proofs.Storing.{none_used, stored_chain, stored_list, stores_none}
use Rattle.template_compiler_names_statements.proofs.targets.+bound.Goals as goal

pub bind_target-returns-in-List : goal.bind_target-returns-in-List
bind_target-returns-in-List t c =
    let read = c.deref-in-List.ensures.value ∙ ap (λ (x : Spanned ListNode). x.node.items.items) c.deref.ensures in
    goes_on c.args.names.now c.bind_targets.new.names c.bind_targets.result (λ q. refl)
    (λ q. ap (λ (es : Items Expr). is_stored_in_one q (expressions_in es)) read ∙ stored_list q c.args.target.now c.in-List.n c.in-List.is)
    c.bind_targets.ensures

pub bind_target-returns-in-Compare : goal.bind_target-returns-in-Compare
bind_target-returns-in-Compare t c =
    goes_as (λ q. refl) (λ q. stored_chain q c.args.target.now c.in-Compare.field-0 c.in-Compare.is) (goes_nowhere c.args.names.now)

pub bind_targets-loop-target-preserved : goal.bind_targets-loop-target-preserved
bind_targets-loop-target-preserved t c =
    goes_item (λ (e : Expr). no_place) (λ (e : Expr) name. is_stored_in name (expression_of e)) (λ (es : Items Expr). no_place)
    (λ (es : Items Expr) name. is_stored_in_one name (expressions_in es)) (λ e es q. none_used (is_stored_in q.name (expression_of e))) (λ e es q. refl)
    c.args.targets.now c.loop-target.target-index c.target-item.result c.loop-target.names c.bind_target.new.names (omega arith) c.target-item.is
    c.loop-target.invariant c.in_ok-bind_target.ensures

pub bind_targets-returns : goal.bind_targets-returns
bind_targets-returns t c =
    goes_end (λ (es : Items Expr). no_place) (λ (es : Items Expr) name. is_stored_in_one name (expressions_in es)) (λ q. refl) (λ q. refl)
    c.args.targets.now c.loop-target.target-index c.loop-target.names c.loop-target-test.false c.loop-target.invariant

pub bind_target-returns-in-Var : goal.bind_target-returns-in-Var
bind_target-returns-in-Var t c =
    goes_on c.args.names.now c.store.new.self c.store.result (λ q. refl)
    (λ q. ap (λ (x : Expr). is_stored_in q (expression_of x)) (sym c.in-Var.is)) c.store.ensures

pub bind_target-returns-in-Const : goal.bind_target-returns-in-Const
bind_target-returns-in-Const t c = stores_none c.args.names.now c.in-Const.is (λ q. refl)

pub bind_target-returns-in-Slice : goal.bind_target-returns-in-Slice
bind_target-returns-in-Slice t c = stores_none c.args.names.now c.in-Slice.is (λ q. refl)

pub bind_target-returns-in-UnaryOp : goal.bind_target-returns-in-UnaryOp
bind_target-returns-in-UnaryOp t c = stores_none c.args.names.now c.in-UnaryOp.is (λ q. refl)

pub bind_target-returns-in-BinOp : goal.bind_target-returns-in-BinOp
bind_target-returns-in-BinOp t c = stores_none c.args.names.now c.in-BinOp.is (λ q. refl)

pub bind_target-returns-in-IfExpr : goal.bind_target-returns-in-IfExpr
bind_target-returns-in-IfExpr t c = stores_none c.args.names.now c.in-IfExpr.is (λ q. refl)

pub bind_target-returns-in-Filter : goal.bind_target-returns-in-Filter
bind_target-returns-in-Filter t c = stores_none c.args.names.now c.in-Filter.is (λ q. refl)

pub bind_target-returns-in-Test : goal.bind_target-returns-in-Test
bind_target-returns-in-Test t c = stores_none c.args.names.now c.in-Test.is (λ q. refl)

pub bind_target-returns-in-GetAttr : goal.bind_target-returns-in-GetAttr
bind_target-returns-in-GetAttr t c = stores_none c.args.names.now c.in-GetAttr.is (λ q. refl)

pub bind_target-returns-in-GetItem : goal.bind_target-returns-in-GetItem
bind_target-returns-in-GetItem t c = stores_none c.args.names.now c.in-GetItem.is (λ q. refl)

pub bind_target-returns-in-Call : goal.bind_target-returns-in-Call
bind_target-returns-in-Call t c = stores_none c.args.names.now c.in-Call.is (λ q. refl)

pub bind_target-returns-in-Tuple : goal.bind_target-returns-in-Tuple
bind_target-returns-in-Tuple t c = stores_none c.args.names.now c.in-Tuple.is (λ q. refl)

pub bind_target-returns-in-Map : goal.bind_target-returns-in-Map
bind_target-returns-in-Map t c = stores_none c.args.names.now c.in-Map.is (λ q. refl)
