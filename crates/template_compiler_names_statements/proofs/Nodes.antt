-- What stands beside the left parts of nodes.
use Rattle.std.proofs.Common.{◌≡◌, ℕ, ◌≤◌, ◌<◌, ◌+◌, Bool, true, false, ◌&&◌, ◌||◌, List as Items, [], bytes_eq, Option, None, Some, Bor, Box, Global, rules, arith, refl, sym, ap, ◌∙◌}
use Rattle.std.specs.Prelude.{option_map, IfSome}
use Rattle.template_compiler_tree.specs.Tree.{Expression, variable, constant, slice, unary, binary, chain, conditional, filtered, tested, attribute, item, call, list_literal, tuple_literal, map_literal, absent, given}
use Rattle.template_compiler_tree_parts.specs.Spine.{left_of, before}
use Rattle.template_compiler_names.specs.declared.state.Names.{Names}
use Rattle.template_compiler_names.specs.Among.{nothing}
use Rattle.template_compiler_names.specs.Goes.{Goes}
use Rattle.template_compiler_names.proofs.Laws.{uses_as, uses_plain, uses_then}
use Rattle.template_compiler_tree.specs.View.{expression_of, expressions_in, links_in, arguments_in, optional_in}
use Rattle.template_compiler_tree.specs.declared.span.Spanned.{Spanned}
use Rattle.template_compiler_tree.specs.declared.calls.Call.{Call as CallNode}
use Rattle.template_compiler_tree.specs.declared.expressions.Compare.{Compare, out-Compare}
use Rattle.template_compiler_tree.specs.declared.expressions.Filter.{Filter as FilterNode}
use Rattle.template_compiler_tree.specs.declared.expressions.IfExpr.{IfExpr as IfExprNode}
use Rattle.template_compiler_tree.specs.declared.expressions.List.{List as ListNode}
use Rattle.template_compiler_tree.specs.declared.expressions.Map.{Map as MapNode}
use Rattle.template_compiler_tree.specs.declared.expressions.Slice.{Slice as SliceNode}
use Rattle.template_compiler_tree.specs.declared.expressions.Test.{Test as TestNode}
use Rattle.template_compiler_tree.specs.declared.expressions.Tuple.{Tuple as TupleNode}
use Rattle.template_compiler_tree.specs.declared.expressions.Expr.{Expr, size-Expr, Compare as CompareNode, Call, Filter, IfExpr, List, Map, Slice, Test, Tuple, the_lemmas}
use Rattle.template_compiler_tree.proofs.Rows.{arguments_row}
use Rattle.template_compiler_tree_parts.proofs.Trees.{chain_tree, choice_tree, list_tree, map_tree, slice_tree, tuple_tree}
use Rattle.template_compiler_names.proofs.Plain.{before_any}
use Rattle.template_compiler_names.specs.Names.{Places, anywhere, place_before, place_in, place_if_given, place_in_one, place_in_links, place_in_arguments}
use Rattle.template_compiler_names.specs.Dotted.{fields_left}
use Rattle.template_compiler_names_statements.specs.Parts.{left_deep, left_place, place_beside}

filter_beside : (q : Places) (fields : Items (Items ℕ)) (n : Box (Spanned FilterNode) Global) →
    place_beside q fields (expression_of (Filter n)) ≡ place_in_arguments q (arguments_in n.value.node.args.items)
filter_beside q fields n = search (rules, the_lemmas, arguments_row)

test_beside : (q : Places) (fields : Items (Items ℕ)) (n : Box (Spanned TestNode) Global) →
    place_beside q fields (expression_of (Test n)) ≡ place_in_arguments q (arguments_in n.value.node.args.items)
test_beside q fields n = search (rules, the_lemmas, arguments_row)

call_beside : (q : Places) (fields : Items (Items ℕ)) (n : Box (Spanned CallNode) Global) →
    place_beside q fields (expression_of (Call n)) ≡ place_in_arguments q (arguments_in n.value.node.args.items)
call_beside q fields n = search (rules, the_lemmas, arguments_row)

pub in_filter : (q : Places) (fields : Items (Items ℕ)) (e : Expr) (n : Box (Spanned FilterNode) Global) → e ≡ Filter n →
    place_in_arguments q (arguments_in n.value.node.args.items) ≡ place_beside q fields (expression_of e)
in_filter q fields e n node = sym (ap (λ (x : Expr). place_beside q fields (expression_of x)) node ∙ filter_beside q fields n)

pub in_test : (q : Places) (fields : Items (Items ℕ)) (e : Expr) (n : Box (Spanned TestNode) Global) → e ≡ Test n →
    place_in_arguments q (arguments_in n.value.node.args.items) ≡ place_beside q fields (expression_of e)
in_test q fields e n node = sym (ap (λ (x : Expr). place_beside q fields (expression_of x)) node ∙ test_beside q fields n)

pub in_call : (q : Places) (fields : Items (Items ℕ)) (e : Expr) (n : Box (Spanned CallNode) Global) → e ≡ Call n →
    place_in_arguments q (arguments_in n.value.node.args.items) ≡ place_beside q fields (expression_of e)
in_call q fields e n node = sym (ap (λ (x : Expr). place_beside q fields (expression_of x)) node ∙ call_beside q fields n)

pub in_list : (q : Places) (fields : Items (Items ℕ)) (e : Expr) (n : Box (Spanned ListNode) Global) → e ≡ List n →
    place_in_one q (expressions_in n.value.node.items.items) ≡ place_beside q fields (expression_of e)
in_list q fields e n node =
    sym (ap (λ (x : Expr). place_beside q fields (expression_of x)) node ∙ ap (λ (t : Expression). place_beside q fields t) (list_tree n))

pub in_tuple : (q : Places) (fields : Items (Items ℕ)) (e : Expr) (n : Box (Spanned TupleNode) Global) → e ≡ Tuple n →
    place_in_one q (expressions_in n.value.node.items.items) ≡ place_beside q fields (expression_of e)
in_tuple q fields e n node =
    sym (ap (λ (x : Expr). place_beside q fields (expression_of x)) node ∙ ap (λ (t : Expression). place_beside q fields t) (tuple_tree n))

pub in_map : (q : Places) (fields : Items (Items ℕ)) (e : Expr) (n : Box (Spanned MapNode) Global) → e ≡ Map n →
    (place_in_one q (expressions_in n.value.node.keys.items) || place_in_one q (expressions_in n.value.node.values.items)) ≡ place_beside q fields (expression_of e)
in_map q fields e n node =
    sym (ap (λ (x : Expr). place_beside q fields (expression_of x)) node ∙ ap (λ (t : Expression). place_beside q fields t) (map_tree n))

pub in_chain : (q : Places) (fields : Items (Items ℕ)) (e : Expr) (n : Box (Spanned Compare) Global) → e ≡ CompareNode n →
    place_in_links q (links_in (out-Compare n.value.node).ops.items) ≡ place_beside q fields (expression_of e)
in_chain q fields e n node =
    sym (ap (λ (x : Expr). place_beside q fields (expression_of x)) node ∙ ap (λ (t : Expression). place_beside q fields t) (chain_tree n.value.node))

pub in_slice : (q : Places) (fields : Items (Items ℕ)) (e : Expr) (n : Box (Spanned SliceNode) Global) → e ≡ Slice n →
    ((place_if_given q (optional_in n.value.node.start) || place_if_given q (optional_in n.value.node.stop)) || place_if_given q (optional_in n.value.node.step))
    ≡ place_beside q fields (expression_of e)
in_slice q fields e n node =
    sym (ap (λ (x : Expr). place_beside q fields (expression_of x)) node ∙ ap (λ (t : Expression). place_beside q fields t) (slice_tree n))

pub in_condition : (q : Places) (fields : Items (Items ℕ)) (e : Expr) (n : Box (Spanned IfExprNode) Global) → e ≡ IfExpr n →
    ((place_in q (expression_of n.value.node.test_expr) || place_in q (expression_of n.value.node.true_expr)) || place_if_given q (optional_in n.value.node.false_expr))
    ≡ place_beside q fields (expression_of e)
in_condition q fields e n node =
    sym (ap (λ (x : Expr). place_beside q fields (expression_of x)) node ∙ ap (λ (t : Expression). place_beside q fields t) (choice_tree n))

-- the left chain
or_false : (b : Bool) → b ≡ (b || false)
or_false true = refl
or_false false = refl

or_turned : (a b : Bool) → (a || b) ≡ (b || a)
or_turned true true = refl
or_turned true false = refl
or_turned false true = refl
or_turned false false = refl

three : (a b c d : Bool) → ((b || c || d) || a) ≡ (a || b || c || d)
three true b c d = or_turned (b || c || d) true
three false b c d = sym (or_false (b || c || d))

parted : (q : Places) (fields : Items (Items ℕ)) (t : Expression) →
    (place_beside q fields t || before (place_before q (fields_left t fields)) false (left_of t)) ≡ place_before q fields t
parted q fields (variable name) = sym (or_false (q.counts fields && bytes_eq name q.name))
parted q fields (constant v) = refl
parted q fields (slice e start stop by) = three (place_in q e) (place_if_given q start) (place_if_given q stop) (place_if_given q by)
parted q fields (unary op e) = sym (or_false (place_in q e))
parted q fields (binary op left right) = or_turned (place_in q right) (place_in q left)
parted q fields (chain first links) = or_turned (place_in_links q links) (place_in q first)
parted q fields (conditional test branch otherwise) = sym (or_false (place_in q test || place_in q branch || place_if_given q otherwise))
parted q fields (filtered name absent passed) = sym (or_false (place_in_arguments q passed))
parted q fields (filtered name (given e) passed) = or_turned (place_in_arguments q passed) (place_in q e)
parted q fields (tested name e passed) = or_turned (place_in_arguments q passed) (place_in q e)
parted q fields (attribute e name) = refl
parted q fields (item e key) = or_turned (place_in q key) (place_in q e)
parted q fields (call callee passed) = or_turned (place_in_arguments q passed) (place_in q callee)
parted q fields (list_literal es) = sym (or_false (place_in_one q es))
parted q fields (tuple_literal es) = sym (or_false (place_in_one q es))
parted q fields (map_literal ks vs) = sym (or_false (place_in_one q ks || place_in_one q vs))

left_is : (q : Places) (fields : Items (Items ℕ)) (o : Option (Bor Expr)) →
    left_place fields o q ≡ before (place_before q fields) false (option_map (λ part. expression_of part.now) o)
left_is q fields None = refl
left_is q fields (Some part) = refl

pub left_within : (o : Option (Bor Expr)) (m k : ℕ) → IfSome o (λ part. size-Expr part.now < m) → m ≤ k → left_deep o ≤ k + 1
left_within None m k smaller within = omega arith
left_within (Some part) m k smaller within = omega (arith, smaller)

pub left_ends : {G : Names → Type 0} (e : Expr) (old : Option (Bor Expr)) (part : Bor Expr) (new : Option (Bor Expr)) (fields next : Items (Items ℕ)) (a b : Names) →
    old ≡ Some part → part.now ≡ e → option_map (λ p. expression_of p.now) new ≡ left_of (expression_of e) → next ≡ fields_left (expression_of e) fields →
    ((c : Names) → Goes (left_place fields old) nothing a c → G c) → Goes (λ q. place_beside q fields (expression_of e)) nothing a b →
    (c : Names) → Goes (left_place next new) nothing b c → G c
left_ends e old part new fields next a b at is left behind ends step c rest =
    let all : (q : Places) → (place_beside q fields (expression_of e) || left_place next new q) ≡ left_place fields old q = λ q.
    ap (λ x. place_beside q fields (expression_of e) || x)
    (left_is q next new ∙ ap (λ (o : Option Expression). before (place_before q next) false o) left ∙
    ap (λ (fs : Items (Items ℕ)). before (place_before q fs) false (left_of (expression_of e))) behind) ∙
    parted q fields (expression_of e) ∙ ap (λ (x : Expr). place_before q fields (expression_of x)) (sym is) ∙
    ap (λ (o : Option (Bor Expr)). left_place fields o q) (sym at) in
    ends c (uses_as all (uses_then a b c step rest))

-- the same where names alone are told
before_plain : (id : Items ℕ) (fields next : Items (Items ℕ)) (o : Option Expression) →
    before (place_before (anywhere id) fields) false o ≡ before (place_before (anywhere id) next) false o
before_plain id fields next None = refl
before_plain id fields next (Some e) = before_any id fields e ∙ sym (before_any id next e)

pub plain_ends : {G : Names → Type 0} (e : Expr) (old : Option (Bor Expr)) (part : Bor Expr) (new : Option (Bor Expr)) (a b : Names) → a.nested ≡ false →
    old ≡ Some part → part.now ≡ e → option_map (λ p. expression_of p.now) new ≡ left_of (expression_of e) →
    ((c : Names) → Goes (left_place [] old) nothing a c → G c) → Goes (λ q. place_beside q [] (expression_of e)) nothing a b →
    (c : Names) → Goes (left_place [] new) nothing b c → G c
plain_ends e old part new a b flat at is left ends step c rest =
    let all : (id : Items ℕ) → (place_beside (anywhere id) [] (expression_of e) || left_place [] new (anywhere id)) ≡ left_place [] old (anywhere id) = λ id.
    let q = anywhere id in
    ap (λ x. place_beside q [] (expression_of e) || x)
    (left_is q [] new ∙ ap (λ (o : Option Expression). before (place_before q []) false o) left ∙
    before_plain id [] (fields_left (expression_of e) []) (left_of (expression_of e))) ∙
    parted q [] (expression_of e) ∙ ap (λ (x : Expr). place_before q [] (expression_of x)) (sym is) ∙
    ap (λ (o : Option (Bor Expr)). left_place [] o q) (sym at) in
    ends c (uses_plain a c flat all (uses_then a b c step rest))
