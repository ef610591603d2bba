-- One law for all that goes over expressions: a function whose answer at a tree is made of its answer at the left part
-- is the fold of that step over the spine.
use Rattle.std.proofs.Common.{◌≡◌, ℕ, ◌≤◌, List, [], ◌∷◌, ◌++◌, length, map, take, Some, Bor, refl, sym, ◌∙◌, ap}
use Rattle.std.specs.List.{fold}
use Rattle.std.proofs.lemmas.List.Sums.{fold_push}
use Rattle.std.proofs.lemmas.List.Folds.{fold-map}
use Rattle.std.proofs.lemmas.List.{take_all}
use Rattle.template_compiler_tree.specs.Tree.{Expression, variable, constant, slice, unary, binary, chain, conditional, filtered, tested, attribute, item, call, list_literal, tuple_literal, map_literal, Optional, absent, given}
use Rattle.template_compiler_tree_parts.specs.Spine.{optional, left_of, spine_of, spine_before, before}
use Rattle.template_compiler_tree.specs.View.{expression_of}
use Rattle.template_compiler_tree.specs.declared.expressions.Expr.{Expr}

module _ {A : Type 0} (f : Expression → A) (own : A → Expression → A) (z : A)
    (step : (t : Expression) → f t ≡ own (before f z (left_of t)) t) where
  with_left : (l t : Expression) → left_of t ≡ Some l → fold own z (spine_of l) ≡ f l → fold own z (spine_of l ++ t ∷ []) ≡ f t
  with_left l t left along =
      fold_push own z (spine_of l) t ∙ ap (λ a. own a t) along ∙ ap (λ o. own (before f z o) t) (sym left) ∙ sym (step t)

  mutual
    walked_along : (t : Expression) → fold own z (spine_of t) ≡ f t
    walked_along (slice e start stop step') = with_left e (slice e start stop step') refl (walked_along e)
    walked_along (binary op left right) = with_left left (binary op left right) refl (walked_along left)
    walked_along (chain e links) = with_left e (chain e links) refl (walked_along e)
    walked_along (filtered name value args) =
        fold_push own z (spine_before value) (filtered name value args) ∙
        ap (λ a. own a (filtered name value args)) (walked_before value) ∙ sym (step (filtered name value args))
    walked_along (tested name e args) = with_left e (tested name e args) refl (walked_along e)
    walked_along (attribute e name) = with_left e (attribute e name) refl (walked_along e)
    walked_along (item e key) = with_left e (item e key) refl (walked_along e)
    walked_along (call e args) = with_left e (call e args) refl (walked_along e)
    walked_along (variable name) = sym (step (variable name))
    walked_along (constant value) = sym (step (constant value))
    walked_along (unary op e) = sym (step (unary op e))
    walked_along (conditional test first other) = sym (step (conditional test first other))
    walked_along (list_literal items) = sym (step (list_literal items))
    walked_along (tuple_literal items) = sym (step (tuple_literal items))
    walked_along (map_literal keys values) = sym (step (map_literal keys values))

    walked_before : (value : Optional) → fold own z (spine_before value) ≡ before f z (optional value)
    walked_before absent = refl
    walked_before (given e) = walked_along e

  -- where a loop over a tree's spine has come to its end, it holds the answer at the tree
  pub walked : (ns : List (Bor Expr)) (t : Expression) (i : ℕ) (so_far : A) →
      map (λ (n : Bor Expr). expression_of n.now) ns ≡ spine_of t → length ns ≤ i →
      so_far ≡ fold (λ a (n : Bor Expr). own a (expression_of n.now)) z (take i ns) → so_far ≡ f t
  walked ns t i so_far nodes all folded =
      folded ∙ ap (λ ms. fold (λ a (n : Bor Expr). own a (expression_of n.now)) z ms) (take_all i ns all) ∙
      sym (fold-map own (λ (n : Bor Expr). expression_of n.now) z ns) ∙ ap (fold own z) nodes ∙ walked_along t
