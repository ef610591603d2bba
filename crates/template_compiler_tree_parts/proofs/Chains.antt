-- Facts of left chains.
use Rattle.std.proofs.Common.{◌≡◌, ◌≤◌, All, List, [], ◌∷◌, ◌++◌, map, reverse, Some, Bor, Box, Global, refl, sym, ◌∙◌, append_assoc}
use Rattle.std.proofs.lemmas.List.{reverse-append}
use Rattle.std.proofs.lemmas.List.Elements.{All-push, All-same}
use denote.Hole.Carrier.{out}
use Rattle.template_compiler_tree.specs.Tree.{Expression}
use Rattle.template_compiler_tree_parts.specs.Spine.{spine_of}
use Rattle.template_compiler_tree.specs.View.{expression_of, chain_of}
use Rattle.template_compiler_tree.specs.declared.span.Spanned.{Spanned}
use Rattle.template_compiler_tree.specs.declared.expressions.Filter.{Filter as FilterNode}
use Rattle.template_compiler_tree.specs.declared.expressions.Expr.{Expr, Filter, size-Expr}
use Rattle.template_compiler_tree.specs.declared.expressions.Compare.{Compare, Compare' as compared, out-Compare}

pub chain_spine : (c : Compare) → spine_of (chain_of c) ≡ spine_of (expression_of (out-Compare c).expr) ++ chain_of c ∷ []
unfolding out-Compare out
chain_spine (compared expr shape ops) = refl

pub filter_spine : (n : Box (Spanned FilterNode) Global) (e : Expr) → n.value.node.expr ≡ Some e →
    spine_of (expression_of (Filter n)) ≡ spine_of (expression_of e) ++ expression_of (Filter n) ∷ []
filter_spine n e is = rw is refl

-- one node more is passed
pub passed_more : (e part : Expr) (passed new : List (Bor Expr)) (b : Bor Expr) (root : List Expression) →
    b.now ≡ e → new ≡ passed ++ b ∷ [] →
    spine_of (expression_of e) ≡ spine_of (expression_of part) ++ expression_of e ∷ [] →
    spine_of (expression_of e) ++ map (λ n. expression_of n.now) (reverse passed) ≡ root →
    spine_of (expression_of part) ++ map (λ n. expression_of n.now) (reverse new) ≡ root
passed_more e part passed new b root same grown left so_far =
    let behind = map (λ (n : Bor Expr). expression_of n.now) (reverse passed) in
    let turned : map (λ (n : Bor Expr). expression_of n.now) (reverse (passed ++ b ∷ [])) ≡ expression_of e ∷ behind =
    rw (reverse-append passed (b ∷ [])) (rw same refl) in
    rw (grown, turned) (sym (append_assoc (spine_of (expression_of part)) (expression_of e ∷ []) behind) ∙ rw (← left) so_far)

-- and it is no larger than the root
pub passed_within : (root : Expr) (passed new : List (Bor Expr)) (b : Bor Expr) → new ≡ passed ++ b ∷ [] →
    size-Expr b.now ≤ size-Expr root → All (λ n. size-Expr n.now ≤ size-Expr root) passed → All (λ n. size-Expr n.now ≤ size-Expr root) new
passed_within root passed new b grown here all =
    let Within = λ (n : Bor Expr). size-Expr n.now ≤ size-Expr root in
    All-same Within new (passed ++ b ∷ []) grown (All-push Within passed b all here)
