use Rattle.std.proofs.Common.{◌≡◌, ℕ, ◌+◌, ◌<◌, ◌++◌, ◌&&◌, List, length, take, drop, true, false, Option, None, Some, ap, sym, subst, ◌∙◌, arith, refl}
use Rattle.std.proofs.lemmas.Result.{IfOk-at_ok, on_ok_weaker}
use Rattle.std.specs.Prelude.{IfOk, OnOk, option_and_then}
use Rattle.template_values_model.specs.Val.{Val}
use Rattle.std.specs.Cow.{cow_str_bytes}
use Rattle.template_compiler_tree.specs.Tree.{Expression, Links, call, chain, filtered, tested, links_more, list_literal, map_literal, tuple_literal}
use Rattle.template_compiler_tree.specs.Kinds.{is_self_name, is_empty}
use Rattle.template_compiler_tree.specs.View.{arguments_in, expression_of, expressions_in, links_in, optional_in}
use Rattle.template_compiler_tree.specs.declared.calls.Call.{Call as CallNode}
use Rattle.template_compiler_tree.specs.declared.calls.CallArg.{CallArg}
use Rattle.template_compiler_tree.specs.declared.expressions.Compare.{Compare, out-Compare}
use Rattle.template_compiler_tree.specs.declared.expressions.CompareOp.{CompareOp}
use Rattle.template_compiler_tree.specs.declared.expressions.Expr.{size-Expr}
use Rattle.template_compiler_tree.specs.declared.expressions.Filter.{Filter as FilterNode}
use Rattle.template_compiler_tree.specs.declared.expressions.GetAttr.{GetAttr as GetAttrNode}
use Rattle.template_compiler_tree.specs.declared.expressions.List.{List as ListNode}
use Rattle.template_compiler_tree.specs.declared.expressions.Map.{Map as MapNode}
use Rattle.template_compiler_tree.specs.declared.expressions.Test.{Test as TestNode}
use Rattle.template_compiler_tree.specs.declared.expressions.Tuple.{Tuple as TupleNode}
use Rattle.template_compiler_tree.specs.declared.span.Spanned.{Spanned}
use Rattle.template_compiler_expression_codegen.proofs.CodedWalks.{coded_walked}
use Rattle.template_compiler_walk.specs.Constants.{chain_constant, constant_of}
use Rattle.template_compiler_walk.specs.Runnable.{IsRunnable, AreRunnableArguments}
use Rattle.template_compiler_code.specs.Code.{build_list, build_tuple, call_method, compare_and_preserve, operate}
use Rattle.template_compiler_code.specs.Listing.{code_in}
use Rattle.template_compiler_codegen.specs.Expressions.{chain_code, expression_code, filter_code, merged_count, one, unary_code}
use Rattle.template_compiler_folding.specs.Folding.{binary_folded, comparison_folded, unary_folded}
use Rattle.template_compiler_emission.specs.declared.leaps.Leap.TheVariants.{Always, IfFalse}
use Rattle.template_compiler_emission.specs.Puts.{Puts, behind, unless}
use Rattle.template_compiler_emission.proofs.Putting.{same_then, puts_then, puts_either, puts_skipped}
use Rattle.template_compiler_expression_codegen.specs.Chains.{constant_behind, is_false, leaps_in, left_behind, linked_to}
use Rattle.template_compiler_expression_codegen.specs.Own.{block_code, call_code, test_code}
use Rattle.template_compiler_expression_codegen.specs.declared.stretches.Stretches.{Stretches}
use Rattle.template_compiler_expression_codegen.proofs.Along.{alone_put, left_runnable, part_put, nothing_there, runnable_at, depth_at, one_node, so_far}
use Rattle.template_compiler_expression_codegen.proofs.Arguments.{argument_runnable, filter_arguments, keyword_runnable, keyword_spread_runnable, keywords_counted, none_put, one_by_name, one_by_place, passed_counted, passes_value, puts_block, puts_filter, puts_function, puts_keywords, puts_method, puts_passed, puts_test, puts_value, spread_runnable, value_runnable}
use Rattle.template_compiler_expression_codegen.proofs.Ends.{choice_behind_none, ends_choice, ends_operator, ends_unary, puts_over}
use Rattle.template_compiler_expression_codegen.proofs.Items.{item_runnable, number_is, puts_item}
use Rattle.template_compiler_expression_codegen.proofs.Linked.{behind_none, link_goes, link_known, link_more, link_runnable, links_at, place_more}
use Rattle.template_compiler_expression_codegen.proofs.Own.{known, add_own, no_left, own_step}
use Rattle.template_compiler_expression_codegen.proofs.Putting.{grows_back_at, grows_by, grows_itself, grows_then, landed_at, puts_as, puts_behind, puts_chain, puts_optional, puts_whole}
use Rattle.template_compiler_expression_codegen.proofs.Sizes.{argument_deep, arguments_deep, item_deep, keyword_deep, keyword_spread_deep, link_deep, spread_deep, value_deep}
use Rattle.template_compiler_expression_codegen.proofs.Trees.{call_deep, call_is, chain_deep, chain_is, filter_deep, filter_is, keys_deep, list_deep, list_is, map_is, test_deep, test_is, tuple_deep, tuple_is, values_deep}
use Rattle.template_compiler_expression_codegen.proofs.expressions.+expression.Goals as goal

pub fold_spine-loop-i-preserved : goal.fold_spine-loop-i-preserved
fold_spine-loop-i-preserved t c =
    let ns = c.in_ok-nodes.nodes.items in
    let within : c.loop-i.i < length ns = omega arith in
    let more = one_node ns c.loop-i.i c.index.result.now (code_in c.args.code.now) (code_in c.loop-i.code) (code_in c.fold_node.new.code)
    c.loop-i.value c.fold_node.new.value within c.index.ensures
    (runnable_at (expression_of c.args.expr.now) ns c.requires.runs (IfOk-at_ok _ c.in_ok-nodes.ensures.given c.coded_spine.ensures.nodes) c.loop-i.i c.index.result.now within c.index.ensures)
    c.loop-i.invariant.constant c.loop-i.invariant.code c.in_ok-fold_node.ensures.constant c.in_ok-fold_node.ensures.put.code in
    record { constant = more.0; code = more.1; same = same_then c.loop-i.invariant.same c.in_ok-fold_node.ensures.put.same }

pub fold_left-returns-in-Var-clause-put : goal.fold_left-returns-in-Var-clause-put
fold_left-returns-in-Var-clause-put t c = rw (c.in-Var.is, c.requires.none) c.put_name.ensures.put

pub fold_tree-fold_left-requires : goal.fold_tree-fold_left-requires
fold_tree-fold_left-requires t c = (
  omega (arith, c.in-Some.ensures.smaller, c.decreases),
  (
    left_runnable (expression_of c.args.expr.now) (expression_of c.in-Some.part.now) c.requires.runs c.in-Some.ensures.left,
    c.requires.none,
  ),
)

pub fold_tree-returns-in-None-clause-put : goal.fold_tree-returns-in-None-clause-put
fold_tree-returns-in-None-clause-put t c =
    let e = expression_of c.args.expr.now in
    let none = nothing_there c.coded_left.result e c.in-None.is c.coded_left.ensures.left in
    on_ok_weaker c.fold_node-in-None.result (λ both. both.1)
    (alone_put e c.args.value.now c.fold_node-in-None.new.value c.args.code.now c.fold_node-in-None.new.code c.fold_node-in-None.result
    c.requires.runs none c.requires.none c.fold_node-in-None.ensures.constant c.fold_node-in-None.ensures.put)

pub fold_tree-returns-in_ok-fold_left-in-Some-clause-put : goal.fold_tree-returns-in_ok-fold_left-in-Some-clause-put
fold_tree-returns-in_ok-fold_left-in-Some-clause-put t c =
    on_ok_weaker c.fold_node.result (λ both. both.1)
    (part_put (expression_of c.args.expr.now) (expression_of c.in-Some.part.now) _ c.fold_node.new.value c.args.code.now _ _ c.fold_node.result
    c.requires.runs c.in-Some.ensures.left c.in_ok-fold_left-in-Some.ensures.constant c.in_ok-fold_left-in-Some.ensures.put
    c.fold_node.ensures.constant c.fold_node.ensures.put)

pub fold_spine-returns-clause-constant : goal.fold_spine-returns-clause-constant
fold_spine-returns-clause-constant t c =
    let ns = c.in_ok-nodes.nodes.items in
    let p = length (code_in c.args.code.now) in
    let e = expression_of c.args.expr.now in
    let all = coded_walked (known p) (add_own p) no_left (own_step p) ns e c.loop-i.i (so_far p (take c.loop-i.i ns)) (IfOk-at_ok _ c.in_ok-nodes.ensures.given c.coded_spine.ensures.nodes) (omega arith) refl in
    c.loop-i.invariant.constant ∙ ap (λ a. a.0) all

pub fold_spine-fold_node-requires : goal.fold_spine-fold_node-requires
fold_spine-fold_node-requires t c =
    let ns = c.in_ok-nodes.nodes.items in
    let within : c.loop-i.i < length ns = omega arith in
    let deep = depth_at (size-Expr c.args.expr.now) ns (IfOk-at_ok _ c.in_ok-nodes.ensures.given c.coded_spine.ensures.depth) c.loop-i.i c.index.result.now within c.index.ensures in (
      omega (arith, deep, c.decreases),
      runnable_at (expression_of c.args.expr.now) ns c.requires.runs (IfOk-at_ok _ c.in_ok-nodes.ensures.given c.coded_spine.ensures.nodes) c.loop-i.i c.index.result.now within c.index.ensures,
    )

pub fold_spine-returns-clause-put : goal.fold_spine-returns-clause-put
fold_spine-returns-clause-put t c =
    let ns = c.in_ok-nodes.nodes.items in
    let p = length (code_in c.args.code.now) in
    let e = expression_of c.args.expr.now in
    let all = coded_walked (known p) (add_own p) no_left (own_step p) ns e c.loop-i.i (so_far p (take c.loop-i.i ns)) (IfOk-at_ok _ c.in_ok-nodes.ensures.given c.coded_spine.ensures.nodes) (omega arith) refl in
    let constant = c.loop-i.invariant.constant ∙ ap (λ a. a.0) all in
    record {
      code = c.loop-i.invariant.code ∙ ap (λ a. code_in c.args.code.now ++ a.1) all ∙
          ap (λ (o : Option Val). code_in c.args.code.now ++ unless o (expression_code e) p) (sym constant);
      same = c.loop-i.invariant.same;
    }

pub compile_chain-returns-in_ok-push-in-None-holds-2-clause-constant : goal.compile_chain-returns-in_ok-push-in-None-holds-2-clause-constant
compile_chain-returns-in_ok-push-in-None-holds-2-clause-constant t c =
    let first = c.in-Some.parts.0.now in
    let later = c.in-Some.parts.1.now in
    let split : links_in c.args.links.now ≡ links_more first.op (expression_of first.expr) (links_in later) =
    ap (λ (l : List CompareOp). links_in l) c.in-Some.ensures.cases.0 in
    let none : c.in_ok-holds.field-0.holds ≡ None = cc in
    sym none ∙ c.in_ok-holds.ensures.constant ∙
    link_known first.op (expression_of first.expr) (links_in later) c.args.left.now c.in_ok-link.link.holds c.in_ok-link.link.left
    c.in_ok-link.ensures.holds c.in_ok-link.ensures.left ∙
    ap (λ (l : Links). option_and_then (λ v. chain_constant v l) c.args.left.now) (sym split)

pub compile_chain-returns-in_ok-push-in-None-holds-2-clause-put : goal.compile_chain-returns-in_ok-push-in-None-holds-2-clause-put
compile_chain-returns-in_ok-push-in-None-holds-2-clause-put t c = λ _.
    let first = c.in-Some.parts.0.now in
    let later = c.in-Some.parts.1.now in
    let split : links_in c.args.links.now ≡ links_more first.op (expression_of first.expr) (links_in later) =
    ap (λ (l : List CompareOp). links_in l) c.in-Some.ensures.cases.0 in
    let none : c.in_ok-holds.field-0.holds ≡ None = cc in
    rw split (puts_chain first.op (expression_of first.expr) (links_in later) c.in_ok-holds.field-0.leaps.items {d = c.tell_leaps.new.code}
    c.in_ok-link.ensures.put (c.in_ok-holds.ensures.put none) (c.in_ok-holds.ensures.leaps none) c.tell_leaps.ensures.told c.tell_leaps.ensures.same
    c.in_ok-push-in-None-holds.ensures.put c.in_ok-push-in-None-holds-2.ensures.put)

pub compile_chain-returns-in_ok-push-in-None-holds-2-clause-grown : goal.compile_chain-returns-in_ok-push-in-None-holds-2-clause-grown
compile_chain-returns-in_ok-push-in-None-holds-2-clause-grown t c =
    let put : Puts (chain_code (links_in c.args.links.now)) c.args.code.now c.push-in-None-holds.new.code =
    compile_chain-returns-in_ok-push-in-None-holds-2-clause-put t c refl in
    grows_by put

pub compile_choice-returns-clause-put : goal.compile_choice-returns-clause-put
compile_choice-returns-clause-put t c =
    let second = landed_at IfFalse c.in_ok-second.second (code_in c.compile_expr.new.code) (code_in c.push_leap-2.new.code) (code_in c.land.new.code)
    c.in_ok-second.ensures.place c.land.ensures.landed in
    let end = landed_at Always c.in_ok-end.end (code_in c.compile_expr-2.new.code) (code_in c.compile_optional.new.code) (code_in c.land-2.new.code)
    c.in_ok-end.ensures.place c.land-2.ensures.landed in
    puts_then c.in_ok-compile_expr.ensures.put (puts_either c.in_ok-second.ensures.put c.in_ok-compile_expr-2.ensures.put c.in_ok-end.ensures.put
    second c.land.ensures.same (puts_optional (optional_in c.args.otherwise.now) c.silent_undefined.ensures c.in_ok-compile_optional.ensures.put)
    end c.land-2.ensures.same)

pub compile_entries-compile_expr-requires : goal.compile_entries-compile_expr-requires
compile_entries-compile_expr-requires t c =
    let ks = c.args.keys.now in
    let within : c.loop-i.i < length ks = omega arith in (
      omega (arith, item_deep ks c.loop-i.i c.index-keys-i.result within c.index-keys-i.is, c.decreases),
      item_runnable ks c.loop-i.i c.index-keys-i.result c.requires.keys within c.index-keys-i.is,
    )

pub compile_entries-compile_expr-requires-in-loop-i : goal.compile_entries-compile_expr-requires-in-loop-i
compile_entries-compile_expr-requires-in-loop-i t c =
    let vs = c.args.values.now in
    let within : c.loop-i.i < length vs = omega arith in (
      omega (arith, item_deep vs c.loop-i.i c.index-values-i.result within c.index-values-i.is, c.decreases),
      item_runnable vs c.loop-i.i c.index-values-i.result c.requires.values within c.index-values-i.is,
    )

pub compile_items-compile_expr-requires : goal.compile_items-compile_expr-requires
compile_items-compile_expr-requires t c =
    let es = c.args.items.now in
    let within : c.loop-item.item-index < length es = omega arith in (
      omega (arith, item_deep es c.loop-item.item-index c.item-item.result within c.item-item.is, c.decreases),
      item_runnable es c.loop-item.item-index c.item-item.result c.requires within c.item-item.is,
    )

pub compile_items-loop-item-preserved : goal.compile_items-loop-item-preserved
compile_items-loop-item-preserved t c =
    let es = c.args.items.now in
    let within : c.loop-item.item-index < length es = omega arith in
    puts_item es c.loop-item.item-index c.item-item.result within c.item-item.is c.loop-item.invariant c.in_ok-compile_expr.ensures.put

pub compile_links-compile_link-requires : goal.compile_links-compile_link-requires
compile_links-compile_link-requires t c =
    let ls = c.args.links.now in
    let within : c.loop-next.next-index < length ls = omega arith in (
      omega (arith, link_deep ls c.loop-next.next-index c.next-item.result within c.next-item.is, c.decreases),
      link_runnable ls c.loop-next.next-index c.next-item.result c.requires.links within c.next-item.is,
    )

pub compile_links-loop-next-preserved : goal.compile_links-loop-next-preserved
compile_links-loop-next-preserved t c =
    let ls = c.args.links.now in
    let i = c.loop-next.next-index in
    let x = c.next-item.result in
    let e = expression_of x.expr in
    let rest = links_in (drop (i + 1) ls) in
    let within : i < length ls = omega arith in
    let at = links_at ls i x within c.next-item.is in
    let holds = c.loop-next.link.holds in
    let left = c.loop-next.link.left in
    let later = c.in_ok-link.link.holds in
    let behind = c.in_ok-link.link.left in
    let goes : is_false holds ≡ false = sym c.is_false.ensures ∙ c.if-is_false.false in
    let before = code_in c.loop-next.code in
    let leapt = code_in c.put_leap.new.code in
    let after = code_in c.compile_link.new.code in
    let places = c.loop-next.leaps.items in
    record {
      stays = behind_none later behind (constant_of e) c.in_ok-link.ensures.left;
      constant = link_goes x.op e rest holds left later behind goes c.loop-next.invariant.stays c.in_ok-link.ensures.holds c.in_ok-link.ensures.left ∙
          ap (λ (l : Links). constant_behind holds left l) (sym at) ∙ c.loop-next.invariant.constant;
      leaps = ap (λ (qs : List ℕ). qs ++ leaps_in rest (length after)) c.in_ok-put_leap.ensures.kept ∙
          place_more x.op e rest before leapt after places c.in_ok-put_leap.ensures.put.code c.in_ok-link.ensures.put.code ∙
          ap (λ (l : Links). places ++ leaps_in l (length before)) (sym at) ∙ c.loop-next.invariant.leaps;
      code = link_more x.op e rest before leapt after c.in_ok-put_leap.ensures.put.code c.in_ok-link.ensures.put.code ∙
          ap (λ (l : Links). before ++ linked_to 0 l (length before)) (sym at) ∙ c.loop-next.invariant.code;
      grown = grows_then c.loop-next.invariant.grown (grows_then (grows_by c.in_ok-put_leap.ensures.put) (grows_by c.in_ok-link.ensures.put));
    }

pub fold_list_literal-returns-in_ok-compile_items-in-None-clause-put : goal.fold_list_literal-returns-in_ok-compile_items-in-None-clause-put
fold_list_literal-returns-in_ok-compile_items-in-None-clause-put t c = rw c.let_go.ensures (on_ok_weaker c.push.result (λ last.
    puts_then c.in_ok-compile_items-in-None.ensures.put (puts_as (ap (λ n. build_list (Some n)) (sym (number_is c.args.items.now))) last)) c.push.ensures.put)

pub fold_tuple_literal-returns-in_ok-compile_items-in-None-clause-put : goal.fold_tuple_literal-returns-in_ok-compile_items-in-None-clause-put
fold_tuple_literal-returns-in_ok-compile_items-in-None-clause-put t c = rw c.let_go.ensures (on_ok_weaker c.push.result (λ last.
    puts_then c.in_ok-compile_items-in-None.ensures.put (puts_as (ap (λ n. build_tuple (Some n)) (sym (number_is c.args.items.now))) last)) c.push.ensures.put)

pub fold_node-fold_list_literal-requires : goal.fold_node-fold_list_literal-requires
fold_node-fold_list_literal-requires t c =
    let read = c.deref-in-List-2.ensures.value ∙ ap (λ (l : Spanned ListNode). l.node.items.items) c.deref-in-List.ensures in
    let tree = list_is c.args.expr.now c.in-List.n c.deref-in-List-2.result.now c.in-List.is read in
    let runs : IsRunnable (list_literal (expressions_in c.deref-in-List-2.result.now)) = subst (λ (x : Expression). IsRunnable x) tree c.requires in
    (omega (arith, list_deep c.args.expr.now c.in-List.n c.deref-in-List-2.result.now c.in-List.is read, c.decreases), runs)

pub fold_node-returns-in-List-clause-constant : goal.fold_node-returns-in-List-clause-constant
fold_node-returns-in-List-clause-constant t c =
    let tree = list_is c.args.expr.now c.in-List.n c.deref-in-List-2.result.now c.in-List.is (c.deref-in-List-2.ensures.value ∙ ap (λ (l : Spanned ListNode). l.node.items.items) c.deref-in-List.ensures) in
    rw tree c.fold_list_literal.ensures.constant

pub fold_node-returns-in-List-clause-put : goal.fold_node-returns-in-List-clause-put
fold_node-returns-in-List-clause-put t c =
    let tree = list_is c.args.expr.now c.in-List.n c.deref-in-List-2.result.now c.in-List.is (c.deref-in-List-2.ensures.value ∙ ap (λ (l : Spanned ListNode). l.node.items.items) c.deref-in-List.ensures) in
    rw tree c.fold_list_literal.ensures.put

pub fold_node-fold_tuple_literal-requires : goal.fold_node-fold_tuple_literal-requires
fold_node-fold_tuple_literal-requires t c =
    let read = c.deref-in-Tuple-2.ensures.value ∙ ap (λ (l : Spanned TupleNode). l.node.items.items) c.deref-in-Tuple.ensures in
    let tree = tuple_is c.args.expr.now c.in-Tuple.n c.deref-in-Tuple-2.result.now c.in-Tuple.is read in
    let runs : IsRunnable (tuple_literal (expressions_in c.deref-in-Tuple-2.result.now)) = subst (λ (x : Expression). IsRunnable x) tree c.requires in
    (omega (arith, tuple_deep c.args.expr.now c.in-Tuple.n c.deref-in-Tuple-2.result.now c.in-Tuple.is read, c.decreases), runs)

pub fold_node-returns-in-Tuple-clause-constant : goal.fold_node-returns-in-Tuple-clause-constant
fold_node-returns-in-Tuple-clause-constant t c =
    let tree = tuple_is c.args.expr.now c.in-Tuple.n c.deref-in-Tuple-2.result.now c.in-Tuple.is (c.deref-in-Tuple-2.ensures.value ∙ ap (λ (l : Spanned TupleNode). l.node.items.items) c.deref-in-Tuple.ensures) in
    rw tree c.fold_tuple_literal.ensures.constant

pub fold_node-returns-in-Tuple-clause-put : goal.fold_node-returns-in-Tuple-clause-put
fold_node-returns-in-Tuple-clause-put t c =
    let tree = tuple_is c.args.expr.now c.in-Tuple.n c.deref-in-Tuple-2.result.now c.in-Tuple.is (c.deref-in-Tuple-2.ensures.value ∙ ap (λ (l : Spanned TupleNode). l.node.items.items) c.deref-in-Tuple.ensures) in
    rw tree c.fold_tuple_literal.ensures.put

pub fold_node-fold_map_literal-requires : goal.fold_node-fold_map_literal-requires
fold_node-fold_map_literal-requires t c =
    let e = c.args.expr.now in
    let n = c.in-Map.n in
    let keys = c.deref-in-Map-2.result.now in
    let values = c.deref-in-Map-4.result.now in
    let first = c.deref-in-Map-2.ensures.value ∙ ap (λ (m : Spanned MapNode). m.node.keys.items) c.deref-in-Map.ensures in
    let second = c.deref-in-Map-4.ensures.value ∙ ap (λ (m : Spanned MapNode). m.node.values.items) c.deref-in-Map-3.ensures in
    let tree = map_is e n keys values c.in-Map.is first second in
    let runs : IsRunnable (map_literal (expressions_in keys) (expressions_in values)) = subst (λ (x : Expression). IsRunnable x) tree c.requires in
    (omega (arith, keys_deep e n keys c.in-Map.is first, values_deep e n values c.in-Map.is second, c.decreases), (runs.0, runs.1))

pub fold_node-returns-in-Map-clause-constant : goal.fold_node-returns-in-Map-clause-constant
fold_node-returns-in-Map-clause-constant t c =
    let first = c.deref-in-Map-2.ensures.value ∙ ap (λ (m : Spanned MapNode). m.node.keys.items) c.deref-in-Map.ensures in
    let second = c.deref-in-Map-4.ensures.value ∙ ap (λ (m : Spanned MapNode). m.node.values.items) c.deref-in-Map-3.ensures in
    let tree = map_is c.args.expr.now c.in-Map.n c.deref-in-Map-2.result.now c.deref-in-Map-4.result.now c.in-Map.is first second in
    rw tree c.fold_map_literal.ensures.constant

pub fold_node-returns-in-Map-clause-put : goal.fold_node-returns-in-Map-clause-put
fold_node-returns-in-Map-clause-put t c =
    let first = c.deref-in-Map-2.ensures.value ∙ ap (λ (m : Spanned MapNode). m.node.keys.items) c.deref-in-Map.ensures in
    let second = c.deref-in-Map-4.ensures.value ∙ ap (λ (m : Spanned MapNode). m.node.values.items) c.deref-in-Map-3.ensures in
    let tree = map_is c.args.expr.now c.in-Map.n c.deref-in-Map-2.result.now c.deref-in-Map-4.result.now c.in-Map.is first second in
    rw tree c.fold_map_literal.ensures.put

pub fold_node-fold_chain-requires : goal.fold_node-fold_chain-requires
fold_node-fold_chain-requires t c =
    let e = c.args.expr.now in
    let n = c.in-Compare.n in
    let links = c.deref-in-Compare-2.result.now in
    let read = c.deref-in-Compare-2.ensures.value ∙ ap (λ (x : Spanned Compare). (out-Compare x.node).ops.items) c.deref-in-Compare.ensures in
    let tree = chain_is e n links c.in-Compare.is read in
    let runs : IsRunnable (chain (expression_of (out-Compare n.value.node).expr) (links_in links)) = subst (λ (x : Expression). IsRunnable x) tree c.requires in
    (omega (arith, chain_deep e n links c.in-Compare.is read, c.decreases), runs.1)

pub fold_node-returns-in-Compare-clause-constant : goal.fold_node-returns-in-Compare-clause-constant
fold_node-returns-in-Compare-clause-constant t c =
    let read = c.deref-in-Compare-2.ensures.value ∙ ap (λ (x : Spanned Compare). (out-Compare x.node).ops.items) c.deref-in-Compare.ensures in
    let tree = chain_is c.args.expr.now c.in-Compare.n c.deref-in-Compare-2.result.now c.in-Compare.is read in
    rw tree c.fold_chain.ensures.constant

pub fold_node-returns-in-Compare-clause-put : goal.fold_node-returns-in-Compare-clause-put
fold_node-returns-in-Compare-clause-put t c =
    let read = c.deref-in-Compare-2.ensures.value ∙ ap (λ (x : Spanned Compare). (out-Compare x.node).ops.items) c.deref-in-Compare.ensures in
    let tree = chain_is c.args.expr.now c.in-Compare.n c.deref-in-Compare-2.result.now c.in-Compare.is read in
    rw tree c.fold_chain.ensures.put

pub compile_links-loop-next-init : goal.compile_links-loop-next-init
compile_links-loop-next-init t c = record {
  stays = c.requires.first;
  constant = refl;
  leaps = ap (λ (qs : List ℕ). qs ++ leaps_in (links_in c.args.links.now) (length (code_in c.args.code.now))) c.new-leaps.ensures.items;
  code = refl;
  grown = grows_itself c.args.code.now;
}

pub compile_slice-returns-clause-put : goal.compile_slice-returns-clause-put
compile_slice-returns-clause-put t c = on_ok_weaker c.push.result (λ last.
    puts_behind c.args.left.now c.in_ok-load_held.ensures.put
    (puts_then (puts_optional (optional_in c.args.start.now) c.none.ensures c.in_ok-compile_optional.ensures.put)
    (puts_then (puts_optional (optional_in c.args.stop.now) c.none-2.ensures c.in_ok-compile_optional-2.ensures.put)
    (puts_then (puts_optional (optional_in c.args.step.now) c.none-3.ensures c.in_ok-compile_optional-3.ensures.put) last)))) c.push.ensures.put

pub fold_chain-returns-in-Some-clause-put : goal.fold_chain-returns-in-Some-clause-put
fold_chain-returns-in-Some-clause-put t c = rw c.hold.ensures (
    grows_back_at c.len-begins.result c.len-begins.ensures.len (grows_then (grows_by c.in_ok-load_copy.ensures.put) c.in_ok-holds.ensures.grown)
    c.truncate.ensures.kept c.truncate.ensures.same c.truncate.ensures.places)

pub compile_tree-returns-clause-put : goal.compile_tree-returns-clause-put
compile_tree-returns-clause-put t c = on_ok_weaker c.load_held.result (λ last.
    puts_whole (expression_of c.args.expr.now) c.in_ok-fold_tree.ensures.constant c.in_ok-fold_tree.ensures.put last) c.load_held.ensures.put

pub compile_item-returns-clause-put : goal.compile_item-returns-clause-put
compile_item-returns-clause-put t c = on_ok_weaker c.push.result (λ last.
    puts_behind c.args.left.now c.in_ok-load_held.ensures.put (puts_then c.in_ok-compile_expr.ensures.put last)) c.push.ensures.put

pub fold_unary_operator-returns-clause-constant : goal.fold_unary_operator-returns-clause-constant
fold_unary_operator-returns-clause-constant t c =
    subst (λ (k : Option Val). OnOk c.end_constant_unary.result (c.end_constant_unary.new.value ≡ unary_folded c.args.op k))
    c.in_ok-fold_left.ensures.constant c.end_constant_unary.ensures.constant

pub fold_unary_operator-returns-clause-put : goal.fold_unary_operator-returns-clause-put
fold_unary_operator-returns-clause-put t c =
    ends_unary (expression_of c.args.operand.now) (one (unary_code c.args.op)) c.len-begins.result _ c.end_constant_unary.new.value
    c.end_constant_unary.result c.end_constant_unary.new.code c.len-begins.ensures.len c.in_ok-fold_left.ensures.constant
    c.in_ok-fold_left.ensures.put c.end_constant_unary.ensures.put

pub fold_constant_choice-returns-clause-constant : goal.fold_constant_choice-returns-clause-constant
fold_constant_choice-returns-clause-constant t c =
    c.hold.ensures ∙ subst (λ (l : Option Val). c.in_ok-folded.folded ≡ binary_folded c.args.op l (constant_of (expression_of c.args.right.now)))
    c.take.ensures.value
    (subst (λ (k : Option Val). c.in_ok-folded.folded ≡ binary_folded c.args.op c.take.result k) c.in_ok-constant.ensures.constant
    c.in_ok-folded.ensures.constant)

pub fold_choice-returns-clause-put : goal.fold_choice-returns-clause-put
fold_choice-returns-clause-put t c =
    let landed = landed_at c.args.leap c.in_ok-jump.jump (code_in c.args.code.now) (code_in c.compile_expr.new.code)
    (code_in c.land.new.code) c.in_ok-jump.ensures.place c.land.ensures.landed in
    choice_behind_none c.args.value.now c.args.leap (expression_code (expression_of c.args.right.now)) (sym c.is_some.ensures ∙ c.if-is_some.false)
    (puts_skipped c.args.leap c.in_ok-jump.ensures.put c.in_ok-compile_expr.ensures.put landed c.land.ensures.same)

pub fold_constant_choice-returns-clause-put : goal.fold_constant_choice-returns-clause-put
fold_constant_choice-returns-clause-put t c = rw c.hold.ensures (
    ends_choice c.args.value.now (expression_of c.args.right.now) c.args.leap c.len-begins.result c.in_ok-jump.jump _ _
    c.end_choice.new.code c.len-begins.ensures.len c.in_ok-load_copy.ensures.put c.in_ok-jump.ensures.place c.in_ok-jump.ensures.put
    c.in_ok-constant.ensures.constant c.in_ok-constant.ensures.put c.in_ok-folded.ensures.put)

pub fold_constant_operator-returns-clause-constant : goal.fold_constant_operator-returns-clause-constant
fold_constant_operator-returns-clause-constant t c =
    c.hold.ensures ∙ subst (λ (l : Option Val). c.in_ok-folded.folded ≡ binary_folded c.args.op l (constant_of (expression_of c.args.right.now)))
    c.take.ensures.value
    (subst (λ (k : Option Val). c.in_ok-folded.folded ≡ binary_folded c.args.op c.take.result k) c.in_ok-constant.ensures.constant
    c.in_ok-folded.ensures.constant)

pub fold_constant_operator-returns-clause-put : goal.fold_constant_operator-returns-clause-put
fold_constant_operator-returns-clause-put t c = rw c.hold.ensures (
    ends_operator c.args.value.now (expression_of c.args.right.now) (one (operate c.args.op)) c.len-begins.result _ _
    c.end_operator.new.code c.len-begins.ensures.len c.in_ok-load_copy.ensures.put c.in_ok-constant.ensures.constant
    c.in_ok-constant.ensures.put c.in_ok-folded.ensures.put)

pub compile_link-returns-clause-holds : goal.compile_link-returns-clause-holds
compile_link-returns-clause-holds t c =
    subst (λ (k : Option Val). IfOk c.end_link.result (λ l. l.holds ≡ comparison_folded c.args.link.now.op c.args.left.now k))
    c.in_ok-right.ensures.constant c.end_link.ensures.holds

pub compile_link-returns-clause-left : goal.compile_link-returns-clause-left
compile_link-returns-clause-left t c =
    subst (λ (k : Option Val). IfOk c.end_link.result (λ l. l.left ≡ left_behind l.holds k)) c.in_ok-right.ensures.constant c.end_link.ensures.left

pub compile_link-returns-clause-put : goal.compile_link-returns-clause-put
compile_link-returns-clause-put t c = on_ok_weaker c.end_link.result (λ last.
    puts_over (expression_of c.args.link.now.expr) (one (compare_and_preserve c.args.link.now.op)) _ c.in_ok-right.ensures.constant
    c.in_ok-right.ensures.put last) c.end_link.ensures.put

pub fold_node-compile_call-requires : goal.fold_node-compile_call-requires
fold_node-compile_call-requires t c =
    let e = c.args.expr.now in
    let n = c.in-Call.n in
    let called = c.deref-in-Call.result.now.node in
    let read = ap (λ (x : Spanned CallNode). x.node) c.deref-in-Call.ensures in
    let tree = call_is e n called c.in-Call.is read in
    let runs : IsRunnable (call (expression_of called.expr) (arguments_in called.args.items)) = subst (λ (x : Expression). IsRunnable x) tree c.requires in
    (omega (arith, call_deep e n called c.in-Call.is read, c.decreases), runs.1)

pub fold_node-returns-in-Call-clause-put : goal.fold_node-returns-in-Call-clause-put
fold_node-returns-in-Call-clause-put t c =
    let called = c.deref-in-Call.result.now.node in
    let read = ap (λ (x : Spanned CallNode). x.node) c.deref-in-Call.ensures in
    let tree = call_is c.args.expr.now c.in-Call.n called c.in-Call.is read in
    rw tree (none_put c.compile_call.new.left (call_code c.args.value.now (expression_of called.expr) (arguments_in called.args.items))
    c.compile_call.result c.args.code.now c.compile_call.new.code c.compile_call.ensures.taken c.compile_call.ensures.put)

pub fold_node-compile_filter-requires : goal.fold_node-compile_filter-requires
fold_node-compile_filter-requires t c =
    let e = c.args.expr.now in
    let n = c.in-Filter.n in
    let f = c.deref-in-Filter.result.now.node in
    let read = ap (λ (x : Spanned FilterNode). x.node) c.deref-in-Filter.ensures in
    let tree = filter_is e n f c.in-Filter.is read in
    let runs : IsRunnable (filtered (cow_str_bytes f.name) (optional_in f.expr) (arguments_in f.args.items)) = subst (λ (x : Expression). IsRunnable x) tree c.requires in
    (omega (arith, filter_deep e n f c.in-Filter.is read, c.decreases), filter_arguments (cow_str_bytes f.name) (optional_in f.expr) (arguments_in f.args.items) runs)

pub fold_node-returns-in-Filter-clause-constant : goal.fold_node-returns-in-Filter-clause-constant
fold_node-returns-in-Filter-clause-constant t c =
    let f = c.deref-in-Filter.result.now.node in
    let read = ap (λ (x : Spanned FilterNode). x.node) c.deref-in-Filter.ensures in
    let tree = filter_is c.args.expr.now c.in-Filter.n f c.in-Filter.is read in
    rw tree c.compile_filter.ensures.taken

pub fold_node-returns-in-Filter-clause-put : goal.fold_node-returns-in-Filter-clause-put
fold_node-returns-in-Filter-clause-put t c =
    let f = c.deref-in-Filter.result.now.node in
    let read = ap (λ (x : Spanned FilterNode). x.node) c.deref-in-Filter.ensures in
    let tree = filter_is c.args.expr.now c.in-Filter.n f c.in-Filter.is read in
    rw tree (none_put c.compile_filter.new.left (behind c.args.value.now (filter_code (cow_str_bytes f.name) (arguments_in f.args.items)))
    c.compile_filter.result c.args.code.now c.compile_filter.new.code c.compile_filter.ensures.taken c.compile_filter.ensures.put)

pub fold_node-compile_test-requires : goal.fold_node-compile_test-requires
fold_node-compile_test-requires t c =
    let e = c.args.expr.now in
    let n = c.in-Test.n in
    let f = c.deref-in-Test.result.now.node in
    let read = ap (λ (x : Spanned TestNode). x.node) c.deref-in-Test.ensures in
    let tree = test_is e n f c.in-Test.is read in
    let runs : IsRunnable (tested (cow_str_bytes f.name) (expression_of f.expr) (arguments_in f.args.items)) = subst (λ (x : Expression). IsRunnable x) tree c.requires in
    (omega (arith, test_deep e n f c.in-Test.is read, c.decreases), runs.1)

pub fold_node-returns-in-Test-clause-constant : goal.fold_node-returns-in-Test-clause-constant
fold_node-returns-in-Test-clause-constant t c =
    let f = c.deref-in-Test.result.now.node in
    let read = ap (λ (x : Spanned TestNode). x.node) c.deref-in-Test.ensures in
    let tree = test_is c.args.expr.now c.in-Test.n f c.in-Test.is read in
    rw tree c.compile_test.ensures.taken

pub fold_node-returns-in-Test-clause-put : goal.fold_node-returns-in-Test-clause-put
fold_node-returns-in-Test-clause-put t c =
    let f = c.deref-in-Test.result.now.node in
    let read = ap (λ (x : Spanned TestNode). x.node) c.deref-in-Test.ensures in
    let tree = test_is c.args.expr.now c.in-Test.n f c.in-Test.is read in
    rw tree (none_put c.compile_test.new.left (behind c.args.value.now (test_code (cow_str_bytes f.name) (arguments_in f.args.items)))
    c.compile_test.result c.args.code.now c.compile_test.new.code c.compile_test.ensures.taken c.compile_test.ensures.put)

pub compile_positional-compile_value-requires : goal.compile_positional-compile_value-requires
compile_positional-compile_value-requires t c =
    let xs = c.args.arguments.now in
    let i = c.loop-argument.argument-index in
    let within : i < length xs = omega arith in (
      omega (arith, argument_deep xs i c.argument-item.result within c.argument-item.is, c.decreases),
      argument_runnable xs i c.argument-item.result c.requires within c.argument-item.is,
    )

pub compile_positional-loop-argument-preserved : goal.compile_positional-loop-argument-preserved
compile_positional-loop-argument-preserved t c =
    let xs = c.args.arguments.now in
    let i = c.loop-argument.argument-index in
    let within : i < length xs = omega arith in
    one_by_place c.args.front xs i c.argument-item.result c.loop-argument.so_far c.in_ok-so_far.so_far within c.argument-item.is c.loop-argument.invariant c.in_ok-so_far.ensures.put

pub compile_named-compile_entry-requires : goal.compile_named-compile_entry-requires
compile_named-compile_entry-requires t c =
    let xs = c.args.arguments.now in
    let i = c.loop-argument.argument-index in
    let within : i < length xs = omega arith in (
      omega (arith, argument_deep xs i c.argument-item.result within c.argument-item.is, c.decreases),
      argument_runnable xs i c.argument-item.result c.requires within c.argument-item.is,
    )

pub compile_named-loop-argument-preserved : goal.compile_named-loop-argument-preserved
compile_named-loop-argument-preserved t c =
    let xs = c.args.arguments.now in
    let i = c.loop-argument.argument-index in
    let within : i < length xs = omega arith in
    one_by_name xs i c.argument-item.result c.loop-argument.so_far c.in_ok-so_far.so_far within c.argument-item.is c.loop-argument.invariant c.in_ok-so_far.ensures.put

pub compile_value-compile_expr-requires : goal.compile_value-compile_expr-requires
compile_value-compile_expr-requires t c = (
  omega (arith, value_deep c.args.argument.now c.in-Pos.expr c.in-Pos.is, c.decreases),
  value_runnable c.args.argument.now c.in-Pos.expr c.requires c.in-Pos.is,
)

pub compile_value-compile_expr-requires-in-PosSplat : goal.compile_value-compile_expr-requires-in-PosSplat
compile_value-compile_expr-requires-in-PosSplat t c = (
  omega (arith, spread_deep c.args.argument.now c.in-PosSplat.expr c.in-PosSplat.is, c.decreases),
  spread_runnable c.args.argument.now c.in-PosSplat.expr c.requires c.in-PosSplat.is,
)

pub compile_value-returns-in_ok-last-in-Pos-clause-put : goal.compile_value-returns-in_ok-last-in-Pos-clause-put
compile_value-returns-in_ok-last-in-Pos-clause-put t c =
    let so_far = c.args.so_far in
    let now : Stretches = record { lists = so_far.lists; last = c.in_ok-last-in-Pos.last; spread = so_far.spread } in
    passes_value c.args.argument.now c.in-Pos.expr so_far now c.in-Pos.is refl c.in_ok-last-in-Pos.ensures.counted refl c.in_ok-compile_expr-in-Pos.ensures.put

pub compile_entry-compile_expr-requires : goal.compile_entry-compile_expr-requires
compile_entry-compile_expr-requires t c = (
  omega (arith, keyword_deep c.args.argument.now c.in-Kwarg.name c.in-Kwarg.expr c.in-Kwarg.is, c.decreases),
  keyword_runnable c.args.argument.now c.in-Kwarg.name c.in-Kwarg.expr c.requires c.in-Kwarg.is,
)

pub compile_entry-compile_expr-requires-in-KwargSplat : goal.compile_entry-compile_expr-requires-in-KwargSplat
compile_entry-compile_expr-requires-in-KwargSplat t c = (
  omega (arith, keyword_spread_deep c.args.argument.now c.in-KwargSplat.expr c.in-KwargSplat.is, c.decreases),
  keyword_spread_runnable c.args.argument.now c.in-KwargSplat.expr c.requires c.in-KwargSplat.is,
)

pub compile_arguments-returns-clause-count : goal.compile_arguments-returns-clause-count
compile_arguments-returns-clause-count t c =
    subst (λ (k : Option ℕ). IfOk c.put_run.result (λ count. count ≡ k))
    (passed_counted c.args.front (arguments_in c.args.arguments.now) c.in_ok-passed.passed c.in_ok-named.named c.in_ok-count.count
    c.in_ok-passed.ensures.put c.in_ok-named.ensures.count c.in_ok-count.ensures.counted) c.put_run.ensures.counted

pub compile_arguments-returns-clause-put : goal.compile_arguments-returns-clause-put
compile_arguments-returns-clause-put t c = on_ok_weaker c.put_run.result (λ last.
    puts_passed c.args.front (arguments_in c.args.arguments.now) c.in_ok-passed.passed c.in_ok-named.named c.in_ok-count.count
    c.in_ok-passed.ensures.put c.in_ok-named.ensures.count c.in_ok-count.ensures.counted c.in_ok-named.ensures.put last) c.put_run.ensures.put

pub compile_keywords-returns-clause-count : goal.compile_keywords-returns-clause-count
compile_keywords-returns-clause-count t c =
    let now = c.in_ok-named.named in
    subst (λ (k : ℕ). IfOk c.put_merged.result (λ n. n ≡ k))
    (keywords_counted (arguments_in c.args.arguments.now) now c.in_ok-maps.maps (merged_count now.spread c.in_ok-maps.maps)
    c.in_ok-named.ensures.put c.in_ok-maps.ensures.counted refl) c.put_merged.ensures.counted

pub compile_keywords-returns-clause-put : goal.compile_keywords-returns-clause-put
compile_keywords-returns-clause-put t c = on_ok_weaker c.put_merged.result (λ last.
    puts_keywords (arguments_in c.args.arguments.now) c.in_ok-named.named c.in_ok-maps.maps c.in_ok-named.ensures.put
    c.in_ok-maps.ensures.counted c.in_ok-maps.ensures.put last) c.put_merged.ensures.put

pub compile_filter-compile_arguments-requires : goal.compile_filter-compile_arguments-requires
compile_filter-compile_arguments-requires t c =
    let read = c.deref.ensures.value in
    let same = ap (λ (xs : List CallArg). arguments_deep xs) read in
    (omega (arith, same, c.decreases), subst (λ (xs : List CallArg). AreRunnableArguments (arguments_in xs)) (sym read) c.requires)

pub compile_filter-returns-clause-put : goal.compile_filter-returns-clause-put
compile_filter-returns-clause-put t c =
    let v = c.args.left.now in
    let name = cow_str_bytes c.args.filter.now.name in
    subst (λ (xs : List CallArg). OnOk c.push.result (Puts (behind v (filter_code name (arguments_in xs))) c.args.code.now c.push.new.code)) c.deref.ensures.value
    (on_ok_weaker c.push.result (λ last.
    puts_filter v name (cow_str_bytes c.in_ok-name.name) (arguments_in c.deref.result.now) c.in_ok-count.count c.in_ok-name.ensures.copied c.in_ok-count.ensures.count
    c.in_ok-load_held.ensures.put c.in_ok-count.ensures.put last) c.push.ensures.put)

pub compile_test-compile_arguments-requires : goal.compile_test-compile_arguments-requires
compile_test-compile_arguments-requires t c =
    let read = c.deref.ensures.value in
    let same = ap (λ (xs : List CallArg). arguments_deep xs) read in
    (omega (arith, same, c.decreases), subst (λ (xs : List CallArg). AreRunnableArguments (arguments_in xs)) (sym read) c.requires)

pub compile_test-returns-clause-put : goal.compile_test-returns-clause-put
compile_test-returns-clause-put t c =
    let v = c.args.left.now in
    let name = cow_str_bytes c.args.test.now.name in
    subst (λ (xs : List CallArg). OnOk c.push.result (Puts (behind v (test_code name (arguments_in xs))) c.args.code.now c.push.new.code)) c.deref.ensures.value
    (on_ok_weaker c.push.result (λ last.
    puts_test v name (cow_str_bytes c.in_ok-name.name) (arguments_in c.deref.result.now) c.in_ok-count.count c.in_ok-name.ensures.copied c.in_ok-count.ensures.count
    c.in_ok-load_held.ensures.put c.in_ok-count.ensures.put last) c.push.ensures.put)

pub compile_call-compile_arguments-requires : goal.compile_call-compile_arguments-requires
compile_call-compile_arguments-requires t c =
    let read = c.deref.ensures.value in
    let same = ap (λ (xs : List CallArg). arguments_deep xs) read in
    (omega (arith, same, c.decreases), subst (λ (xs : List CallArg). AreRunnableArguments (arguments_in xs)) (sym read) c.requires)

pub compile_call-compile_arguments-requires-in-GetAttr : goal.compile_call-compile_arguments-requires-in-GetAttr
compile_call-compile_arguments-requires-in-GetAttr t c =
    let read = c.deref-in-GetAttr-2.ensures.value in
    let same = ap (λ (xs : List CallArg). arguments_deep xs) read in
    (omega (arith, same, c.decreases), subst (λ (xs : List CallArg). AreRunnableArguments (arguments_in xs)) (sym read) c.requires)

pub compile_call-compile_arguments-requires-in_default : goal.compile_call-compile_arguments-requires-in_default
compile_call-compile_arguments-requires-in_default t c =
    let read = c.deref-in_default.ensures.value in
    let same = ap (λ (xs : List CallArg). arguments_deep xs) read in
    (omega (arith, same, c.decreases), subst (λ (xs : List CallArg). AreRunnableArguments (arguments_in xs)) (sym read) c.requires)

pub compile_call-returns-in_ok-count-in-Var-clause-put : goal.compile_call-returns-in_ok-count-in-Var-clause-put
compile_call-returns-in_ok-count-in-Var-clause-put t c =
    let v = c.args.left.now in
    let e = c.args.call.now.expr in
    let args = arguments_in c.deref.result.now in
    subst (λ (xs : List CallArg). OnOk c.push.result (Puts (call_code v (expression_of e) (arguments_in xs)) c.args.code.now c.push.new.code))
    c.deref.ensures.value
    (on_ok_weaker c.push.result (λ last.
    puts_function v e c.in-Var.n args c.in_ok-count-in-Var.count c.in-Var.is c.in_ok-count-in-Var.ensures.count
    c.in_ok-count-in-Var.ensures.put last) c.push.ensures.put)

pub compile_call-returns-in_ok-count-in-GetAttr-clause-put : goal.compile_call-returns-in_ok-count-in-GetAttr-clause-put
compile_call-returns-in_ok-count-in-GetAttr-clause-put t c =
    let v = c.args.left.now in
    let e = c.args.call.now.expr in
    let n = c.in-GetAttr.n in
    let count = c.in_ok-count-in-GetAttr.count in
    let read = c.deref-in-GetAttr-2.ensures.value in
    let args = arguments_in c.deref-in-GetAttr-2.result.now in
    let named = ap (λ (g : Spanned GetAttrNode). call_method g.node.name.now count) c.deref-in-GetAttr.ensures in
    let other : (is_self_name (expression_of n.value.node.expr) && is_empty (arguments_in c.args.call.now.args.items)) ≡ false =
    ap (λ (g : Spanned GetAttrNode). is_self_name (expression_of g.node.expr) && is_empty (arguments_in c.args.call.now.args.items)) (sym c.deref-in-GetAttr.ensures) ∙
    sym c.is_block.ensures ∙ c.if-is_block.false in
    let no_block : (is_self_name (expression_of n.value.node.expr) && is_empty args) ≡ false =
    subst (λ (xs : List CallArg). (is_self_name (expression_of n.value.node.expr) && is_empty (arguments_in xs)) ≡ false) (sym read) other in
    subst (λ (xs : List CallArg). OnOk c.push-in-GetAttr.result (Puts (call_code v (expression_of e) (arguments_in xs)) c.args.code.now c.push-in-GetAttr.new.code)) read
    (on_ok_weaker c.push-in-GetAttr.result (λ last.
    puts_method v e n args count c.in-GetAttr.is no_block c.in_ok-count-in-GetAttr.ensures.count c.in_ok-load_held-in-GetAttr.ensures.put
    c.in_ok-count-in-GetAttr.ensures.put (puts_as named last)) c.push-in-GetAttr.ensures.put)

pub compile_call-returns-then-is_block-clause-put : goal.compile_call-returns-then-is_block-clause-put
compile_call-returns-then-is_block-clause-put t c =
    let n = c.in-GetAttr.n in
    let args = arguments_in c.args.call.now.args.items in
    let block : (is_self_name (expression_of n.value.node.expr) && is_empty args) ≡ true =
    ap (λ (g : Spanned GetAttrNode). is_self_name (expression_of g.node.expr) && is_empty args) (sym c.deref-in-GetAttr.ensures) ∙
    sym c.is_block.ensures ∙ c.if-is_block.true in
    on_ok_weaker c.put_block.result (λ put.
    puts_block c.args.left.now c.args.call.now.expr n args c.in-GetAttr.is block
    (subst (λ (g : Spanned GetAttrNode). Puts (block_code g.node.name.now) c.args.code.now c.put_block.new.code) c.deref-in-GetAttr.ensures put)) c.put_block.ensures.put

pub compile_call-returns-in_ok-count-in_default-clause-put : goal.compile_call-returns-in_ok-count-in_default-clause-put
compile_call-returns-in_ok-count-in_default-clause-put t c =
    let v = c.args.left.now in
    let e = c.args.call.now.expr in
    let count = c.in_ok-count-in_default.count in
    let args = arguments_in c.deref-in_default.result.now in
    subst (λ (xs : List CallArg). OnOk c.push-in_default.result (Puts (call_code v (expression_of e) (arguments_in xs)) c.args.code.now c.push-in_default.new.code))
    c.deref-in_default.ensures.value
    (on_ok_weaker c.push-in_default.result (λ last.
    puts_value v e args count c.in_default.not-Var c.in_default.not-GetAttr c.in_ok-count-in_default.ensures.count c.in_ok-load_held-in_default.ensures.put
    c.in_ok-count-in_default.ensures.put last) c.push-in_default.ensures.put)
