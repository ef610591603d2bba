-- The trees of nodes, from the parts that a node holds.
use Rattle.std.proofs.Common.{◌≡◌, ℕ, ◌<◌, List as Items, length, get_or, Box, Global, rules, sym, ap, ◌∙◌}
use Rattle.std.specs.Cow.{cow_str_bytes}
use Rattle.template_compiler_tree.specs.Tree.{call, chain, conditional, filtered, list_literal, map_literal, slice, tested, tuple_literal}
use Rattle.template_compiler_tree.specs.View.{arguments_in, chain_of, expression_of, expressions_in, links_in, optional_in}
use Rattle.template_compiler_tree.specs.declared.span.Spanned.{Spanned}
use Rattle.template_compiler_tree.specs.declared.calls.Call.{Call as CallNode}
use Rattle.template_compiler_tree.specs.declared.calls.CallArg.{CallArg, size-CallArg}
use Rattle.template_compiler_tree.specs.declared.expressions.Compare.{Compare, Compare' as compared, out-Compare}
use Rattle.template_compiler_tree.specs.declared.expressions.Expr.{Expr, Call, Compare as CompareNode, Filter, IfExpr, List, Map, Slice, Test, Tuple, size-Expr, the_lemmas}
use Rattle.template_compiler_tree.specs.declared.expressions.CompareOp.{CompareOp}
use Rattle.template_compiler_tree.specs.declared.expressions.Filter.{Filter as FilterNode}
use Rattle.template_compiler_tree.specs.declared.expressions.IfExpr.{IfExpr as IfExprNode}
use Rattle.template_compiler_tree.specs.declared.expressions.List.{List as ListNode}
use Rattle.template_compiler_tree.specs.declared.expressions.Map.{Map as MapNode}
use Rattle.template_compiler_tree.specs.declared.expressions.Slice.{Slice as SliceNode}
use Rattle.template_compiler_tree.specs.declared.expressions.Test.{Test as TestNode}
use Rattle.template_compiler_tree.specs.declared.expressions.Tuple.{Tuple as TupleNode}
use Rattle.template_compiler_tree.proofs.Rows.{arguments_row, expressions_row, links_row}
use Rattle.template_compiler_expression_codegen.proofs.Sizes.{arguments_below, arguments_deep, items_below, items_deep, links_below, links_deep}

pub slice_tree : (n : Box (Spanned SliceNode) Global) → expression_of (Slice n)
    ≡ slice (expression_of n.value.node.expr) (optional_in n.value.node.start) (optional_in n.value.node.stop) (optional_in n.value.node.step)
slice_tree n = search (rules, the_lemmas)

pub choice_tree : (n : Box (Spanned IfExprNode) Global) → expression_of (IfExpr n)
    ≡ conditional (expression_of n.value.node.test_expr) (expression_of n.value.node.true_expr) (optional_in n.value.node.false_expr)
choice_tree n = search (rules, the_lemmas)

pub list_tree : (n : Box (Spanned ListNode) Global) → expression_of (List n) ≡ list_literal (expressions_in n.value.node.items.items)
list_tree n = search (rules, the_lemmas, expressions_row)

pub tuple_tree : (n : Box (Spanned TupleNode) Global) → expression_of (Tuple n) ≡ tuple_literal (expressions_in n.value.node.items.items)
tuple_tree n = search (rules, the_lemmas, expressions_row)

pub map_tree : (n : Box (Spanned MapNode) Global) → expression_of (Map n)
    ≡ map_literal (expressions_in n.value.node.keys.items) (expressions_in n.value.node.values.items)
map_tree n = search (rules, the_lemmas, expressions_row)

pub chain_tree : (c : Compare) → chain_of c ≡ chain (expression_of (out-Compare c).expr) (links_in (out-Compare c).ops.items)
chain_tree (compared expr shape ops) = search (rules, the_lemmas, links_row)

call_tree : (n : Box (Spanned CallNode) Global) → expression_of (Call n)
    ≡ call (expression_of n.value.node.expr) (arguments_in n.value.node.args.items)
call_tree n = search (rules, the_lemmas, arguments_row)

filter_tree : (n : Box (Spanned FilterNode) Global) → expression_of (Filter n)
    ≡ filtered (cow_str_bytes n.value.node.name) (optional_in n.value.node.expr) (arguments_in n.value.node.args.items)
filter_tree n = search (rules, the_lemmas, arguments_row)

test_tree : (n : Box (Spanned TestNode) Global) → expression_of (Test n)
    ≡ tested (cow_str_bytes n.value.node.name) (expression_of n.value.node.expr) (arguments_in n.value.node.args.items)
test_tree n = search (rules, the_lemmas, arguments_row)

-- parts are smaller than the node
list_smaller : (n : Box (Spanned ListNode) Global) (i : ℕ) (d : Expr) → i < length n.value.node.items.items
    → size-Expr (get_or n.value.node.items.items i d) < size-Expr (List n)
list_smaller n i d h = search (rules, the_lemmas)

list_positive : (n : Box (Spanned ListNode) Global) → 0 < size-Expr (List n)
list_positive n = search (rules, the_lemmas)

tuple_smaller : (n : Box (Spanned TupleNode) Global) (i : ℕ) (d : Expr) → i < length n.value.node.items.items
    → size-Expr (get_or n.value.node.items.items i d) < size-Expr (Tuple n)
tuple_smaller n i d h = search (rules, the_lemmas)

tuple_positive : (n : Box (Spanned TupleNode) Global) → 0 < size-Expr (Tuple n)
tuple_positive n = search (rules, the_lemmas)

key_smaller : (n : Box (Spanned MapNode) Global) (i : ℕ) (d : Expr) → i < length n.value.node.keys.items
    → size-Expr (get_or n.value.node.keys.items i d) < size-Expr (Map n)
key_smaller n i d h = search (rules, the_lemmas)

value_smaller : (n : Box (Spanned MapNode) Global) (i : ℕ) (d : Expr) → i < length n.value.node.values.items
    → size-Expr (get_or n.value.node.values.items i d) < size-Expr (Map n)
value_smaller n i d h = search (rules, the_lemmas)

map_positive : (n : Box (Spanned MapNode) Global) → 0 < size-Expr (Map n)
map_positive n = search (rules, the_lemmas)

link_smaller : (n : Box (Spanned Compare) Global) (i : ℕ) (d : CompareOp) → i < length (out-Compare n.value.node).ops.items
    → size-Expr (get_or (out-Compare n.value.node).ops.items i d).expr < size-Expr (CompareNode n)
link_smaller n i d h = search (rules, the_lemmas)

chain_positive : (n : Box (Spanned Compare) Global) → 0 < size-Expr (CompareNode n)
chain_positive n = search (rules, the_lemmas)

argument_smaller : (n : Box (Spanned CallNode) Global) (i : ℕ) (d : CallArg) → i < length n.value.node.args.items
    → size-CallArg (get_or n.value.node.args.items i d) < size-Expr (Call n)
argument_smaller n i d h = search (rules, the_lemmas)

call_positive : (n : Box (Spanned CallNode) Global) → 0 < size-Expr (Call n)
call_positive n = search (rules, the_lemmas)

filter_argument_smaller : (n : Box (Spanned FilterNode) Global) (i : ℕ) (d : CallArg) → i < length n.value.node.args.items
    → size-CallArg (get_or n.value.node.args.items i d) < size-Expr (Filter n)
filter_argument_smaller n i d h = search (rules, the_lemmas)

filter_positive : (n : Box (Spanned FilterNode) Global) → 0 < size-Expr (Filter n)
filter_positive n = search (rules, the_lemmas)

test_argument_smaller : (n : Box (Spanned TestNode) Global) (i : ℕ) (d : CallArg) → i < length n.value.node.args.items
    → size-CallArg (get_or n.value.node.args.items i d) < size-Expr (Test n)
test_argument_smaller n i d h = search (rules, the_lemmas)

test_positive : (n : Box (Spanned TestNode) Global) → 0 < size-Expr (Test n)
test_positive n = search (rules, the_lemmas)

-- a list, a tuple, a map, a chain, a call, a filter, a test: its tree, and how deep its parts are
pub list_is : (e : Expr) (n : Box (Spanned ListNode) Global) (items : Items Expr) → e ≡ List n → items ≡ n.value.node.items.items
    → expression_of e ≡ list_literal (expressions_in items)
list_is e n items node read =
    ap (λ (x : Expr). expression_of x) node ∙ list_tree n ∙ ap (λ (es : Items Expr). list_literal (expressions_in es)) (sym read)

pub list_deep : (e : Expr) (n : Box (Spanned ListNode) Global) (items : Items Expr) → e ≡ List n → items ≡ n.value.node.items.items
    → items_deep items < size-Expr e
list_deep e n items node read =
    rw (node, read) (items_below n.value.node.items.items (size-Expr (List n)) (list_positive n) (list_smaller n))

pub tuple_is : (e : Expr) (n : Box (Spanned TupleNode) Global) (items : Items Expr) → e ≡ Tuple n → items ≡ n.value.node.items.items
    → expression_of e ≡ tuple_literal (expressions_in items)
tuple_is e n items node read =
    ap (λ (x : Expr). expression_of x) node ∙ tuple_tree n ∙ ap (λ (es : Items Expr). tuple_literal (expressions_in es)) (sym read)

pub tuple_deep : (e : Expr) (n : Box (Spanned TupleNode) Global) (items : Items Expr) → e ≡ Tuple n → items ≡ n.value.node.items.items
    → items_deep items < size-Expr e
tuple_deep e n items node read =
    rw (node, read) (items_below n.value.node.items.items (size-Expr (Tuple n)) (tuple_positive n) (tuple_smaller n))

pub map_is : (e : Expr) (n : Box (Spanned MapNode) Global) (keys values : Items Expr) → e ≡ Map n → keys ≡ n.value.node.keys.items
    → values ≡ n.value.node.values.items → expression_of e ≡ map_literal (expressions_in keys) (expressions_in values)
map_is e n keys values node first second =
    ap (λ (x : Expr). expression_of x) node ∙ map_tree n ∙
    ap (λ (es : Items Expr). map_literal (expressions_in es) (expressions_in n.value.node.values.items)) (sym first) ∙
    ap (λ (es : Items Expr). map_literal (expressions_in keys) (expressions_in es)) (sym second)

pub keys_deep : (e : Expr) (n : Box (Spanned MapNode) Global) (keys : Items Expr) → e ≡ Map n → keys ≡ n.value.node.keys.items
    → items_deep keys < size-Expr e
keys_deep e n keys node read = rw (node, read) (items_below n.value.node.keys.items (size-Expr (Map n)) (map_positive n) (key_smaller n))

pub values_deep : (e : Expr) (n : Box (Spanned MapNode) Global) (values : Items Expr) → e ≡ Map n → values ≡ n.value.node.values.items
    → items_deep values < size-Expr e
values_deep e n values node read =
    rw (node, read) (items_below n.value.node.values.items (size-Expr (Map n)) (map_positive n) (value_smaller n))

pub chain_is : (e : Expr) (n : Box (Spanned Compare) Global) (links : Items CompareOp) → e ≡ CompareNode n → links ≡ (out-Compare n.value.node).ops.items
    → expression_of e ≡ chain (expression_of (out-Compare n.value.node).expr) (links_in links)
chain_is e n links node read =
    ap (λ (x : Expr). expression_of x) node ∙ chain_tree n.value.node ∙
    ap (λ (ls : Items CompareOp). chain (expression_of (out-Compare n.value.node).expr) (links_in ls)) (sym read)

pub chain_deep : (e : Expr) (n : Box (Spanned Compare) Global) (links : Items CompareOp) → e ≡ CompareNode n → links ≡ (out-Compare n.value.node).ops.items
    → links_deep links < size-Expr e
chain_deep e n links node read =
    rw (node, read) (links_below (out-Compare n.value.node).ops.items (size-Expr (CompareNode n)) (chain_positive n) (link_smaller n))

pub call_is : (e : Expr) (n : Box (Spanned CallNode) Global) (c : CallNode) → e ≡ Call n → c ≡ n.value.node
    → expression_of e ≡ call (expression_of c.expr) (arguments_in c.args.items)
call_is e n c node read =
    ap (λ (x : Expr). expression_of x) node ∙ call_tree n ∙ ap (λ (x : CallNode). call (expression_of x.expr) (arguments_in x.args.items)) (sym read)

pub call_deep : (e : Expr) (n : Box (Spanned CallNode) Global) (c : CallNode) → e ≡ Call n → c ≡ n.value.node
    → arguments_deep c.args.items < size-Expr e
call_deep e n c node read =
    rw (node, read) (arguments_below n.value.node.args.items (size-Expr (Call n)) (call_positive n) (argument_smaller n))

pub filter_is : (e : Expr) (n : Box (Spanned FilterNode) Global) (f : FilterNode) → e ≡ Filter n → f ≡ n.value.node
    → expression_of e ≡ filtered (cow_str_bytes f.name) (optional_in f.expr) (arguments_in f.args.items)
filter_is e n f node read =
    ap (λ (x : Expr). expression_of x) node ∙ filter_tree n ∙
    ap (λ (x : FilterNode). filtered (cow_str_bytes x.name) (optional_in x.expr) (arguments_in x.args.items)) (sym read)

pub filter_deep : (e : Expr) (n : Box (Spanned FilterNode) Global) (f : FilterNode) → e ≡ Filter n → f ≡ n.value.node
    → arguments_deep f.args.items < size-Expr e
filter_deep e n f node read =
    rw (node, read) (arguments_below n.value.node.args.items (size-Expr (Filter n)) (filter_positive n) (filter_argument_smaller n))

pub test_is : (e : Expr) (n : Box (Spanned TestNode) Global) (t : TestNode) → e ≡ Test n → t ≡ n.value.node
    → expression_of e ≡ tested (cow_str_bytes t.name) (expression_of t.expr) (arguments_in t.args.items)
test_is e n t node read =
    ap (λ (x : Expr). expression_of x) node ∙ test_tree n ∙
    ap (λ (x : TestNode). tested (cow_str_bytes x.name) (expression_of x.expr) (arguments_in x.args.items)) (sym read)

pub test_deep : (e : Expr) (n : Box (Spanned TestNode) Global) (t : TestNode) → e ≡ Test n → t ≡ n.value.node
    → arguments_deep t.args.items < size-Expr e
test_deep e n t node read =
    rw (node, read) (arguments_below n.value.node.args.items (size-Expr (Test n)) (test_positive n) (test_argument_smaller n))
