use Rattle.std.proofs.Common.{◌≡◌, ℕ, ◌≤◌, ◌+◌, ◌||◌, List as Items, [], Option, Bor, arith, refl, sym, ap, ◌∙◌}
use Rattle.template_compiler_tree.specs.View.{expression_of, expressions_in, links_in, arguments_in, argument_of, optional_in}
use Rattle.template_compiler_tree.specs.declared.calls.Call.{Call as CallNode}
use Rattle.template_compiler_tree.specs.declared.calls.CallArg.{CallArg}
use Rattle.template_compiler_tree.specs.declared.expressions.BinOp.{BinOp as BinOpNode}
use Rattle.template_compiler_tree.specs.declared.expressions.Compare.{Compare, out-Compare}
use Rattle.template_compiler_tree.specs.declared.expressions.CompareOp.{CompareOp}
use Rattle.template_compiler_tree.specs.declared.expressions.Filter.{Filter as FilterNode}
use Rattle.template_compiler_tree.specs.declared.expressions.GetItem.{GetItem as GetItemNode}
use Rattle.template_compiler_tree.specs.declared.expressions.IfExpr.{IfExpr as IfExprNode}
use Rattle.template_compiler_tree.specs.declared.expressions.List.{List as ListNode}
use Rattle.template_compiler_tree.specs.declared.expressions.Map.{Map as MapNode}
use Rattle.template_compiler_tree.specs.declared.expressions.Slice.{Slice as SliceNode}
use Rattle.template_compiler_tree.specs.declared.expressions.Test.{Test as TestNode}
use Rattle.template_compiler_tree.specs.declared.expressions.Tuple.{Tuple as TupleNode}
use Rattle.template_compiler_tree.specs.declared.expressions.UnaryOp.{UnaryOp as UnaryOpNode}
use Rattle.template_compiler_tree.specs.declared.span.Spanned.{Spanned}
use Rattle.template_compiler_tree.specs.declared.expressions.Expr.{Expr, size-Expr}
use Rattle.template_compiler_names.specs.Names.{place_if_given, place_in, place_in_one, place_in_links, place_in_arguments, place_in_argument}
use Rattle.template_compiler_names.specs.Dotted.{fields_of}
use Rattle.template_compiler_names_statements.specs.Parts.{left_deep, left_place, place_beside}
use Rattle.template_compiler_names.proofs.Laws.{goes_nowhere, uses_as, uses_end, uses_item, uses_on, uses_then, uses_then_on}
use Rattle.template_compiler_names_statements.proofs.Deep.{items_deep, links_deep, deep_at, expression_falls, list_falls, operand_falls, list_deep, tuple_deep, keys_deep, values_deep, chain_deep, operand_deep, right_deep, test_deep, branch_deep, subscript_deep}
use Rattle.template_compiler_names_statements.proofs.Nodes.{in_filter, in_test, in_call, in_list, in_tuple, in_map, in_chain, in_condition, in_slice, left_within, left_ends, plain_ends}
use Rattle.template_compiler_names_statements.proofs.expressions.+expression.Goals as goal

pub use_dotted-use_others-requires : goal.use_dotted-use_others-requires
use_dotted-use_others-requires t c =
    let deep : left_deep c.loop-left_part.left_part ≡ size-Expr c.in-Some.part.now + 1 = ap (λ (o : Option (Bor Expr)). left_deep o) c.in-Some.is in
    let inside : left_deep c.loop-left_part.left_part ≤ size-Expr c.args.expr.now + 1 = c.loop-left_part.invariant.deep in
    (omega (arith, inside, deep, c.decreases), tt)

pub use_dotted-loop-left_part-preserved : goal.use_dotted-loop-left_part-preserved
use_dotted-loop-left_part-preserved t c =
    let deep : left_deep c.loop-left_part.left_part ≡ size-Expr c.in-Some.part.now + 1 = ap (λ (o : Option (Bor Expr)). left_deep o) c.in-Some.is in
    let inside : left_deep c.loop-left_part.left_part ≤ size-Expr c.args.expr.now + 1 = c.loop-left_part.invariant.deep in
    record {
      ends = left_ends c.in-Some.part.now c.loop-left_part.left_part c.in-Some.part c.left-left_part.result (fields_of c.loop-left_part.behind.items)
          (fields_of c.go_left.new.behind.items) c.loop-left_part.names c.use_others.new.names c.in-Some.is refl c.left-left_part.ensures.left
          c.in_ok-go_left.ensures c.loop-left_part.invariant.ends
          (uses_as (λ q. ap (λ (xs : Items (Bor (Items ℕ))). place_beside q (fields_of xs) (expression_of c.in-Some.part.now)) c.deref.ensures.value) c.in_ok-use_others.ensures);
      deep = left_within c.left-left_part.result (size-Expr c.in-Some.part.now) (size-Expr c.args.expr.now) c.left-left_part.ensures.smaller (omega (arith, inside, deep));
    }

pub use_dotted-returns : goal.use_dotted-returns
use_dotted-returns t c =
    c.loop-left_part.invariant.ends c.loop-left_part.names
    (uses_as (λ q. ap (λ (o : Option (Bor Expr)). left_place (fields_of c.loop-left_part.behind.items) o q) (sym c.in_default.is)) (goes_nowhere c.loop-left_part.names))

pub use_expression-returns-in-Var : goal.use_expression-returns-in-Var
use_expression-returns-in-Var t c =
    uses_on c.args.names.now c.find_alone.new.self c.find_alone.result (λ q. ap (λ (x : Expr). place_in q (expression_of x)) (sym c.in-Var.is)) c.find_alone.ensures

pub use_expression-returns-in-Const : goal.use_expression-returns-in-Const
use_expression-returns-in-Const t c =
    uses_as (λ q. ap (λ (x : Expr). place_in q (expression_of x)) (sym c.in-Const.is)) (goes_nowhere c.args.names.now)

pub use_plain-loop-left_part-preserved : goal.use_plain-loop-left_part-preserved
use_plain-loop-left_part-preserved t c =
    let deep : left_deep c.loop-left_part.left_part ≡ size-Expr c.in-Some.part.now + 1 = ap (λ (o : Option (Bor Expr)). left_deep o) c.in-Some.is in
    let inside : left_deep c.loop-left_part.left_part ≤ size-Expr c.args.expr.now + 1 = c.loop-left_part.invariant.deep in
    record {
      plain = c.in_ok-left_part.ensures.uses.nested ∙ c.loop-left_part.invariant.plain;
      ends = plain_ends c.in-Some.part.now c.loop-left_part.left_part c.in-Some.part c.in_ok-left_part.left_part
          c.loop-left_part.names c.use_part.new.names c.loop-left_part.invariant.plain c.in-Some.is refl c.in_ok-left_part.ensures.left
          c.loop-left_part.invariant.ends c.in_ok-left_part.ensures.uses;
      deep = left_within c.in_ok-left_part.left_part (size-Expr c.in-Some.part.now) (size-Expr c.args.expr.now) c.in_ok-left_part.ensures.smaller (omega (arith, inside, deep));
    }

pub use_plain-use_part-requires : goal.use_plain-use_part-requires
use_plain-use_part-requires t c =
    let deep : left_deep c.loop-left_part.left_part ≡ size-Expr c.in-Some.part.now + 1 = ap (λ (o : Option (Bor Expr)). left_deep o) c.in-Some.is in
    let inside : left_deep c.loop-left_part.left_part ≤ size-Expr c.args.expr.now + 1 = c.loop-left_part.invariant.deep in
    (omega (arith, inside, deep, c.decreases), tt)

pub use_plain-returns : goal.use_plain-returns
use_plain-returns t c =
    c.loop-left_part.invariant.ends c.loop-left_part.names
    (uses_as (λ q. ap (λ (o : Option (Bor Expr)). left_place [] o q) (sym c.in_default.is)) (goes_nowhere c.loop-left_part.names))

pub use_items-returns : goal.use_items-returns
use_items-returns t c =
    uses_end (λ (es : Items Expr) places. place_in_one places (expressions_in es)) (λ q. refl) c.args.items.now c.loop-item.item-index c.loop-item.names
    c.loop-item-test.false c.loop-item.invariant

pub use_links-returns : goal.use_links-returns
use_links-returns t c =
    uses_end (λ (ls : Items CompareOp) places. place_in_links places (links_in ls)) (λ q. refl) c.args.links.now c.loop-link.link-index c.loop-link.names
    c.loop-link-test.false c.loop-link.invariant

pub use_arguments-returns : goal.use_arguments-returns
use_arguments-returns t c =
    uses_end (λ (as' : Items CallArg) places. place_in_arguments places (arguments_in as')) (λ q. refl) c.args.arguments.now c.loop-argument.argument-index
    c.loop-argument.names c.loop-argument-test.false c.loop-argument.invariant

pub use_items-loop-item-preserved : goal.use_items-loop-item-preserved
use_items-loop-item-preserved t c =
    uses_item (λ (e : Expr) places. place_in places (expression_of e)) (λ (es : Items Expr) places. place_in_one places (expressions_in es)) (λ e es q. refl)
    c.args.items.now c.loop-item.item-index c.item-item.result c.loop-item.names c.use_expression.new.names (omega arith) c.item-item.is
    c.loop-item.invariant c.in_ok-use_expression.ensures

pub use_links-loop-link-preserved : goal.use_links-loop-link-preserved
use_links-loop-link-preserved t c =
    uses_item (λ (l : CompareOp) places. place_in places (expression_of l.expr)) (λ (ls : Items CompareOp) places. place_in_links places (links_in ls)) (λ l ls q. refl)
    c.args.links.now c.loop-link.link-index c.link-item.result c.loop-link.names c.use_expression.new.names (omega arith) c.link-item.is
    c.loop-link.invariant c.in_ok-use_expression.ensures

pub use_arguments-loop-argument-preserved : goal.use_arguments-loop-argument-preserved
use_arguments-loop-argument-preserved t c =
    uses_item (λ (a : CallArg) places. place_in_argument places (argument_of a)) (λ (as' : Items CallArg) places. place_in_arguments places (arguments_in as')) (λ a as' q. refl)
    c.args.arguments.now c.loop-argument.argument-index c.argument-item.result c.loop-argument.names c.use_argument.new.names (omega arith) c.argument-item.is
    c.loop-argument.invariant c.in_ok-use_argument.ensures

pub use_others-returns-in-Compare : goal.use_others-returns-in-Compare
use_others-returns-in-Compare t c =
    let read = c.deref-in-Compare-2.ensures.value ∙ ap (λ (x : Spanned Compare). (out-Compare x.node).ops.items) c.deref-in-Compare.ensures in
    uses_on c.args.names.now c.use_links.new.names c.use_links.result
    (λ q. ap (λ (ls : Items CompareOp). place_in_links q (links_in ls)) read ∙ in_chain q (fields_of c.args.behind.now) c.args.expr.now c.in-Compare.n c.in-Compare.is)
    c.use_links.ensures

pub use_others-returns-in-Filter : goal.use_others-returns-in-Filter
use_others-returns-in-Filter t c =
    let read = c.deref-in-Filter-2.ensures.value ∙ ap (λ (x : Spanned FilterNode). x.node.args.items) c.deref-in-Filter.ensures in
    uses_on c.args.names.now c.use_arguments.new.names c.use_arguments.result
    (λ q. ap (λ (ls : Items CallArg). place_in_arguments q (arguments_in ls)) read ∙ in_filter q (fields_of c.args.behind.now) c.args.expr.now c.in-Filter.n c.in-Filter.is)
    c.use_arguments.ensures

pub use_others-returns-in-Test : goal.use_others-returns-in-Test
use_others-returns-in-Test t c =
    let read = c.deref-in-Test-2.ensures.value ∙ ap (λ (x : Spanned TestNode). x.node.args.items) c.deref-in-Test.ensures in
    uses_on c.args.names.now c.use_arguments-in-Test.new.names c.use_arguments-in-Test.result
    (λ q. ap (λ (ls : Items CallArg). place_in_arguments q (arguments_in ls)) read ∙ in_test q (fields_of c.args.behind.now) c.args.expr.now c.in-Test.n c.in-Test.is)
    c.use_arguments-in-Test.ensures

pub use_others-returns-in-Call : goal.use_others-returns-in-Call
use_others-returns-in-Call t c =
    let read = c.deref-in-Call-2.ensures.value ∙ ap (λ (x : Spanned CallNode). x.node.args.items) c.deref-in-Call.ensures in
    uses_on c.args.names.now c.use_arguments-in-Call.new.names c.use_arguments-in-Call.result
    (λ q. ap (λ (ls : Items CallArg). place_in_arguments q (arguments_in ls)) read ∙ in_call q (fields_of c.args.behind.now) c.args.expr.now c.in-Call.n c.in-Call.is)
    c.use_arguments-in-Call.ensures

pub use_others-returns-in-List : goal.use_others-returns-in-List
use_others-returns-in-List t c =
    let read = c.deref-in-List-2.ensures.value ∙ ap (λ (x : Spanned ListNode). x.node.items.items) c.deref-in-List.ensures in
    uses_on c.args.names.now c.use_items.new.names c.use_items.result
    (λ q. ap (λ (es : Items Expr). place_in_one q (expressions_in es)) read ∙ in_list q (fields_of c.args.behind.now) c.args.expr.now c.in-List.n c.in-List.is)
    c.use_items.ensures

pub use_others-returns-in-Tuple : goal.use_others-returns-in-Tuple
use_others-returns-in-Tuple t c =
    let read = c.deref-in-Tuple-2.ensures.value ∙ ap (λ (x : Spanned TupleNode). x.node.items.items) c.deref-in-Tuple.ensures in
    uses_on c.args.names.now c.use_items-in-Tuple.new.names c.use_items-in-Tuple.result
    (λ q. ap (λ (es : Items Expr). place_in_one q (expressions_in es)) read ∙ in_tuple q (fields_of c.args.behind.now) c.args.expr.now c.in-Tuple.n c.in-Tuple.is)
    c.use_items-in-Tuple.ensures

pub use_others-returns-in_ok-use_items-in-Map : goal.use_others-returns-in_ok-use_items-in-Map
use_others-returns-in_ok-use_items-in-Map t c =
    let keys = c.deref-in-Map-2.ensures.value ∙ ap (λ (x : Spanned MapNode). x.node.keys.items) c.deref-in-Map.ensures in
    let values = c.deref-in-Map-4.ensures.value ∙ ap (λ (x : Spanned MapNode). x.node.values.items) c.deref-in-Map-3.ensures in
    let first = uses_as (λ q. ap (λ (es : Items Expr). place_in_one q (expressions_in es)) keys) c.in_ok-use_items-in-Map.ensures in
    uses_then_on _ c.args.names.now c.use_items-in-Map.new.names c.use_items-in-Map-2.new.names c.use_items-in-Map-2.result first c.use_items-in-Map-2.ensures
    (λ q.
    ap (λ (es : Items Expr). place_in_one q (expressions_in c.in-Map.n.value.node.keys.items) || place_in_one q (expressions_in es)) values ∙
    in_map q (fields_of c.args.behind.now) c.args.expr.now c.in-Map.n c.in-Map.is)

pub use_others-returns-in_ok-use_optional-in-Slice-2 : goal.use_others-returns-in_ok-use_optional-in-Slice-2
use_others-returns-in_ok-use_optional-in-Slice-2 t c =
    let v = c.in-Slice.n.value.node in
    let start = uses_as (λ q. ap (λ (x : Spanned SliceNode). place_if_given q (optional_in x.node.start)) c.deref.ensures) c.in_ok-use_optional-in-Slice.ensures in
    let stop = uses_as (λ q. ap (λ (x : Spanned SliceNode). place_if_given q (optional_in x.node.stop)) c.deref-in-Slice.ensures) c.in_ok-use_optional-in-Slice-2.ensures in
    let first = uses_then c.args.names.now c.use_optional.new.names c.use_optional-in-Slice.new.names start stop in
    uses_then_on _ c.args.names.now c.use_optional-in-Slice.new.names c.use_optional-in-Slice-2.new.names c.use_optional-in-Slice-2.result first
    c.use_optional-in-Slice-2.ensures
    (λ q.
    ap (λ (x : Spanned SliceNode). (place_if_given q (optional_in v.start) || place_if_given q (optional_in v.stop)) || place_if_given q (optional_in x.node.step))
    c.deref-in-Slice-2.ensures ∙ in_slice q (fields_of c.args.behind.now) c.args.expr.now c.in-Slice.n c.in-Slice.is)

pub use_others-returns-in_ok-use_expression-in-IfExpr-2 : goal.use_others-returns-in_ok-use_expression-in-IfExpr-2
use_others-returns-in_ok-use_expression-in-IfExpr-2 t c =
    let v = c.in-IfExpr.n.value.node in
    let test = uses_as (λ q. ap (λ (x : Spanned IfExprNode). place_in q (expression_of x.node.test_expr)) c.deref-in-IfExpr.ensures) c.in_ok-use_expression-in-IfExpr.ensures in
    let branch = uses_as (λ q. ap (λ (x : Spanned IfExprNode). place_in q (expression_of x.node.true_expr)) c.deref-in-IfExpr-2.ensures) c.in_ok-use_expression-in-IfExpr-2.ensures in
    let first = uses_then c.args.names.now c.use_expression-in-IfExpr.new.names c.use_expression-in-IfExpr-2.new.names test branch in
    uses_then_on _ c.args.names.now c.use_expression-in-IfExpr-2.new.names c.use_optional-in-IfExpr.new.names c.use_optional-in-IfExpr.result first
    c.use_optional-in-IfExpr.ensures
    (λ q.
    ap (λ (x : Spanned IfExprNode). (place_in q (expression_of v.test_expr) || place_in q (expression_of v.true_expr)) || place_if_given q (optional_in x.node.false_expr))
    c.deref-in-IfExpr-3.ensures ∙ in_condition q (fields_of c.args.behind.now) c.args.expr.now c.in-IfExpr.n c.in-IfExpr.is)

pub use_others-returns-in-Var : goal.use_others-returns-in-Var
use_others-returns-in-Var t c =
    uses_on c.args.names.now c.find.new.self c.find.result (λ q. ap (λ (x : Expr). place_beside q (fields_of c.args.behind.now) (expression_of x)) (sym c.in-Var.is)) c.find.ensures

pub use_others-returns-in-UnaryOp : goal.use_others-returns-in-UnaryOp
use_others-returns-in-UnaryOp t c =
    uses_on c.args.names.now c.use_expression.new.names c.use_expression.result
    (λ q. ap (λ (x : Spanned UnaryOpNode). place_in q (expression_of x.node.expr)) c.deref-in-UnaryOp.ensures ∙
    ap (λ (x : Expr). place_beside q (fields_of c.args.behind.now) (expression_of x)) (sym c.in-UnaryOp.is)) c.use_expression.ensures

pub use_others-returns-in-BinOp : goal.use_others-returns-in-BinOp
use_others-returns-in-BinOp t c =
    uses_on c.args.names.now c.use_expression-in-BinOp.new.names c.use_expression-in-BinOp.result
    (λ q. ap (λ (x : Spanned BinOpNode). place_in q (expression_of x.node.right)) c.deref-in-BinOp.ensures ∙
    ap (λ (x : Expr). place_beside q (fields_of c.args.behind.now) (expression_of x)) (sym c.in-BinOp.is)) c.use_expression-in-BinOp.ensures

pub use_others-returns-in-GetItem : goal.use_others-returns-in-GetItem
use_others-returns-in-GetItem t c =
    uses_on c.args.names.now c.use_expression-in-GetItem.new.names c.use_expression-in-GetItem.result
    (λ q. ap (λ (x : Spanned GetItemNode). place_in q (expression_of x.node.subscript_expr)) c.deref-in-GetItem.ensures ∙
    ap (λ (x : Expr). place_beside q (fields_of c.args.behind.now) (expression_of x)) (sym c.in-GetItem.is)) c.use_expression-in-GetItem.ensures

pub use_others-returns-in-Const : goal.use_others-returns-in-Const
use_others-returns-in-Const t c =
    uses_as (λ q. ap (λ (x : Expr). place_beside q (fields_of c.args.behind.now) (expression_of x)) (sym c.in-Const.is)) (goes_nowhere c.args.names.now)

pub use_others-returns-in-GetAttr : goal.use_others-returns-in-GetAttr
use_others-returns-in-GetAttr t c =
    uses_as (λ q. ap (λ (x : Expr). place_beside q (fields_of c.args.behind.now) (expression_of x)) (sym c.in-GetAttr.is)) (goes_nowhere c.args.names.now)

pub use_others-use_items-requires : goal.use_others-use_items-requires
use_others-use_items-requires t c =
    let read = c.deref-in-List-2.ensures.value ∙ ap (λ (x : Spanned ListNode). x.node.items.items) c.deref-in-List.ensures in
    (list_falls _ _ t (list_deep c.args.expr.now c.in-List.n c.deref-in-List-2.result.now c.in-List.is read) c.decreases, tt)

pub use_others-use_items-requires-in-Tuple : goal.use_others-use_items-requires-in-Tuple
use_others-use_items-requires-in-Tuple t c =
    let read = c.deref-in-Tuple-2.ensures.value ∙ ap (λ (x : Spanned TupleNode). x.node.items.items) c.deref-in-Tuple.ensures in
    (list_falls _ _ t (tuple_deep c.args.expr.now c.in-Tuple.n c.deref-in-Tuple-2.result.now c.in-Tuple.is read) c.decreases, tt)

pub use_others-use_items-requires-in-Map : goal.use_others-use_items-requires-in-Map
use_others-use_items-requires-in-Map t c =
    let read = c.deref-in-Map-2.ensures.value ∙ ap (λ (x : Spanned MapNode). x.node.keys.items) c.deref-in-Map.ensures in
    (list_falls _ _ t (keys_deep c.args.expr.now c.in-Map.n c.deref-in-Map-2.result.now c.in-Map.is read) c.decreases, tt)

pub use_others-use_items-requires-in-Map-2 : goal.use_others-use_items-requires-in-Map-2
use_others-use_items-requires-in-Map-2 t c =
    let read = c.deref-in-Map-4.ensures.value ∙ ap (λ (x : Spanned MapNode). x.node.values.items) c.deref-in-Map-3.ensures in
    (list_falls _ _ t (values_deep c.args.expr.now c.in-Map.n c.deref-in-Map-4.result.now c.in-Map.is read) c.decreases, tt)

pub use_others-use_links-requires : goal.use_others-use_links-requires
use_others-use_links-requires t c =
    let read = c.deref-in-Compare-2.ensures.value ∙ ap (λ (x : Spanned Compare). (out-Compare x.node).ops.items) c.deref-in-Compare.ensures in
    (list_falls _ _ t (chain_deep c.args.expr.now c.in-Compare.n c.deref-in-Compare-2.result.now c.in-Compare.is read) c.decreases, tt)

pub use_others-use_expression-requires : goal.use_others-use_expression-requires
use_others-use_expression-requires t c =
    (operand_falls _ _ t (operand_deep c.args.expr.now c.in-UnaryOp.n c.deref-in-UnaryOp.result.now c.in-UnaryOp.is c.deref-in-UnaryOp.ensures) c.decreases, tt)

pub use_others-use_expression-requires-in-BinOp : goal.use_others-use_expression-requires-in-BinOp
use_others-use_expression-requires-in-BinOp t c =
    (operand_falls _ _ t (right_deep c.args.expr.now c.in-BinOp.n c.deref-in-BinOp.result.now c.in-BinOp.is c.deref-in-BinOp.ensures) c.decreases, tt)

pub use_others-use_expression-requires-in-IfExpr : goal.use_others-use_expression-requires-in-IfExpr
use_others-use_expression-requires-in-IfExpr t c =
    (operand_falls _ _ t (test_deep c.args.expr.now c.in-IfExpr.n c.deref-in-IfExpr.result.now c.in-IfExpr.is c.deref-in-IfExpr.ensures) c.decreases, tt)

pub use_others-use_expression-requires-in-IfExpr-2 : goal.use_others-use_expression-requires-in-IfExpr-2
use_others-use_expression-requires-in-IfExpr-2 t c =
    (operand_falls _ _ t (branch_deep c.args.expr.now c.in-IfExpr.n c.deref-in-IfExpr-2.result.now c.in-IfExpr.is c.deref-in-IfExpr-2.ensures) c.decreases, tt)

pub use_others-use_expression-requires-in-GetItem : goal.use_others-use_expression-requires-in-GetItem
use_others-use_expression-requires-in-GetItem t c =
    (operand_falls _ _ t (subscript_deep c.args.expr.now c.in-GetItem.n c.deref-in-GetItem.result.now c.in-GetItem.is c.deref-in-GetItem.ensures) c.decreases, tt)

pub use_items-use_expression-requires : goal.use_items-use_expression-requires
use_items-use_expression-requires t c = (
  expression_falls _ (items_deep c.args.items.now) t
      (deep_at size-Expr c.args.items.now c.loop-item.item-index c.item-item.result (omega arith) c.item-item.is) c.decreases,
  tt,
)

pub use_links-use_expression-requires : goal.use_links-use_expression-requires
use_links-use_expression-requires t c = (
  expression_falls _ (links_deep c.args.links.now) t
      (deep_at (λ (link : CompareOp). size-Expr link.expr) c.args.links.now c.loop-link.link-index c.link-item.result (omega arith) c.link-item.is)
      c.decreases,
  tt,
)

pub use_argument-returns-in-Pos : goal.use_argument-returns-in-Pos
use_argument-returns-in-Pos t c =
    uses_on c.args.names.now c.use_expression.new.names c.use_expression.result
    (λ q. ap (λ (a : CallArg). place_in_argument q (argument_of a)) (sym c.in-Pos.is)) c.use_expression.ensures

pub use_argument-returns-in-Kwarg : goal.use_argument-returns-in-Kwarg
use_argument-returns-in-Kwarg t c =
    uses_on c.args.names.now c.use_expression-in-Kwarg.new.names c.use_expression-in-Kwarg.result
    (λ q. ap (λ (a : CallArg). place_in_argument q (argument_of a)) (sym c.in-Kwarg.is)) c.use_expression-in-Kwarg.ensures

pub use_argument-returns-in-PosSplat : goal.use_argument-returns-in-PosSplat
use_argument-returns-in-PosSplat t c =
    uses_on c.args.names.now c.use_expression-in-PosSplat.new.names c.use_expression-in-PosSplat.result
    (λ q. ap (λ (a : CallArg). place_in_argument q (argument_of a)) (sym c.in-PosSplat.is)) c.use_expression-in-PosSplat.ensures

pub use_argument-returns-in-KwargSplat : goal.use_argument-returns-in-KwargSplat
use_argument-returns-in-KwargSplat t c =
    uses_on c.args.names.now c.use_expression-in-KwargSplat.new.names c.use_expression-in-KwargSplat.result
    (λ q. ap (λ (a : CallArg). place_in_argument q (argument_of a)) (sym c.in-KwargSplat.is)) c.use_expression-in-KwargSplat.ensures

pub use_optional-returns-in-Some : goal.use_optional-returns-in-Some
use_optional-returns-in-Some t c =
    uses_on c.args.names.now c.use_expression.new.names c.use_expression.result
    (λ q. ap (λ (o : Option Expr). place_if_given q (optional_in o)) (sym c.in-Some.is)) c.use_expression.ensures

pub use_optional-returns-in-None : goal.use_optional-returns-in-None
use_optional-returns-in-None t c =
    uses_as (λ q. ap (λ (o : Option Expr). place_if_given q (optional_in o)) (sym c.in-None.is)) (goes_nowhere c.args.names.now)
