-- The filters of a block: each one's code behind that of the ones before it.
use Rattle.std.proofs.Common.{◌≡◌, ℕ, ◌+◌, ◌<◌, ◌≤◌, zero, suc, List, [], ◌∷◌, ◌++◌, length, map, take, get_or, Bor, Box, Global, refl, sym, ap, subst, ◌∙◌, append-nil, arith}
use Rattle.std.specs.List.{All}
use Rattle.std.proofs.lemmas.List.{take_more, take_all}
use Rattle.std.proofs.lemmas.List.Elements.{All-nil, All-head, All-tail, All-same, All-push}
use Rattle.template_compiler_tree.specs.Tree.{Expression, filtered, absent, given}
use Rattle.template_compiler_tree.specs.View.{expression_of}
use Rattle.template_compiler_tree.specs.declared.span.Spanned.{Spanned}
use Rattle.template_compiler_tree.specs.declared.expressions.Compare.{Compare}
use Rattle.template_compiler_tree.specs.declared.expressions.Expr.{Expr, Compare as CompareNode}
use Rattle.template_compiler_walk.specs.Runnable.{AreFilters}
use Rattle.template_compiler_code.specs.Code.{Code}
use Rattle.template_compiler_code.specs.Listing.{code_in}
use Rattle.template_compiler_code.specs.declared.listing.Instructions.{Instructions}
use Rattle.template_compiler_codegen.specs.Expressions.{Coded, nothing, then_code, filter_code, filters_code}
use Rattle.template_compiler_emission.specs.Puts.{Puts}
use Rattle.template_compiler_emission.proofs.Putting.{puts_nothing, puts_then}
use Rattle.template_compiler_expression_codegen.specs.Coded.{coded_spine}
use Rattle.template_compiler_expression_codegen.specs.Filters.{IsLastRunnable, each_code, last_code}
use Rattle.template_compiler_expression_codegen.proofs.Items.{then_assoc}
use Rattle.template_compiler_expression_codegen.proofs.Trees.{chain_tree}

-- one filter more
push_code : (es : List Expression) (e : Expression) (p : ℕ) → each_code (es ++ e ∷ []) p ≡ then_code (each_code es) (last_code e) p
push_code [] e p = append-nil (last_code e p) ∙ ap (λ (q : ℕ). last_code e q) (omega arith)
push_code (x ∷ es) e p =
    let first = last_code x in
    ap (λ (l : List Code). first p ++ l) (push_code es e (p + length (first p))) ∙ then_assoc first (each_code es) (last_code e) p

-- the filters one by one are all filters
whole_code : (e : Expression) → AreFilters e → (p : ℕ) → each_code (coded_spine e) p ≡ filters_code e p
whole_code (filtered name absent args) h p = append-nil (filter_code name args p)
whole_code (filtered name (given e) args) h p =
    push_code (coded_spine e) (filtered name (given e) args) p ∙
    ap (λ (l : List Code). l ++ filter_code name args (p + length l)) (whole_code e h.0 p)
whole_code _ h p = absurd h

-- all of them are runnable
runnable_along : (e : Expression) → AreFilters e → All IsLastRunnable (coded_spine e)
runnable_along (filtered name absent args) h = All-push IsLastRunnable [] (filtered name absent args) (All-nil IsLastRunnable) h
runnable_along (filtered name (given e) args) h = All-push IsLastRunnable (coded_spine e) (filtered name (given e) args) (runnable_along e h.0) h.1
runnable_along _ h = absurd h

abbrev trees_of : List (Bor Expr) → List Expression
trees_of ns = map (λ (n : Bor Expr). expression_of n.now) ns

at_place : (ns : List (Bor Expr)) (i : ℕ) (n : Bor Expr) → All IsLastRunnable (trees_of ns) → i < length ns → IsLastRunnable (expression_of (get_or ns i n).now)
at_place [] i n all h = absurd (omega arith)
at_place (m ∷ ms) zero n all h = All-head IsLastRunnable (expression_of m.now) (trees_of ms) all
at_place (m ∷ ms) (suc i) n all h = at_place ms i n (All-tail IsLastRunnable (expression_of m.now) (trees_of ms) all) (omega arith)

pub filter_runnable : (e : Expression) (ns : List (Bor Expr)) (i : ℕ) (n : Bor Expr) → AreFilters e → trees_of ns ≡ coded_spine e → i < length ns
    → n ≡ get_or ns i n → IsLastRunnable (expression_of n.now)
filter_runnable e ns i n h nodes within read =
    let all = All-same IsLastRunnable (trees_of ns) (coded_spine e) nodes (runnable_along e h) in
    subst (λ (m : Bor Expr). IsLastRunnable (expression_of m.now)) (sym read) (at_place ns i n all within)

-- those so far
abbrev pub so_far_code : List (Bor Expr) → Coded
so_far_code ns = each_code (trees_of ns)

trees_push : (ns : List (Bor Expr)) (n : Bor Expr) → trees_of (ns ++ n ∷ []) ≡ trees_of ns ++ expression_of n.now ∷ []
trees_push [] n = refl
trees_push (m ∷ ms) n = ap (λ (es : List Expression). expression_of m.now ∷ es) (trees_push ms n)

pub puts_filter_more : (ns : List (Bor Expr)) (i : ℕ) (n : Bor Expr) {a b c : Instructions} → i < length ns → n ≡ get_or ns i n → Puts (so_far_code (take i ns)) a b
    → Puts (last_code (expression_of n.now)) b c → Puts (so_far_code (take (i + 1) ns)) a c
puts_filter_more ns i n {a} {b} {c} within read first second =
    let both = puts_then first second in
    let p = length (code_in a) in
    let grown : take i ns ++ n ∷ [] ≡ take (i + 1) ns = ap (λ (m : Bor Expr). take i ns ++ m ∷ []) read ∙ sym (take_more ns i n within) in
    record {
      code = both.code ∙ ap (λ (l : List Code). code_in a ++ l)
          (sym (push_code (trees_of (take i ns)) (expression_of n.now) p) ∙
          ap (λ (es : List Expression). each_code es p) (sym (trees_push (take i ns) n)) ∙
          ap (λ (l : List (Bor Expr)). so_far_code l p) grown);
      same = both.same;
    }

pub puts_all_filters : (e : Expression) (ns : List (Bor Expr)) (i : ℕ) {a b : Instructions} → AreFilters e → trees_of ns ≡ coded_spine e → length ns ≤ i
    → Puts (so_far_code (take i ns)) a b → Puts (filters_code e) a b
puts_all_filters e ns i {a} {b} h nodes over put = record {
  code = put.code ∙ ap (λ (l : List Code). code_in a ++ l)
      (ap (λ (l : List (Bor Expr)). so_far_code l (length (code_in a))) (take_all i ns over) ∙
      ap (λ (es : List Expression). each_code es (length (code_in a))) nodes ∙ whole_code e h (length (code_in a)));
  same = put.same;
}

-- what is no filter has no code of its own
pub puts_no_filter : (e x : Expr) (a : Instructions) → e ≡ x → last_code (expression_of x) ≡ nothing → Puts (last_code (expression_of e)) a a
puts_no_filter e x a is none =
    subst (λ (f : Coded). Puts f a a) (sym (ap (λ (y : Expr). last_code (expression_of y)) is ∙ none)) (puts_nothing a)

pub chain_no_filter : (e : Expr) (n : Box (Spanned Compare) Global) (a : Instructions) → e ≡ CompareNode n → Puts (last_code (expression_of e)) a a
chain_no_filter e n a is =
    puts_no_filter e (CompareNode n) a is (ap (λ (t : Expression). last_code t) (chain_tree n.value.node))
