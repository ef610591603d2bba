-- Lists with one more at the end.
use Rattle.std.proofs.Common.{◌≡◌, List, [], ◌∷◌, Ok, Err, refl, sym, ap, ◌∙◌, length}
use Rattle.std.specs.Prelude.{Result, IfOk}
use Rattle.template_compiler_tree.specs.ExpressionPlaces.{places_of, places_in}
use Rattle.template_compiler_tree.specs.NodePlaces.{at}
use Rattle.template_compiler_tree.specs.declared.span.Span.{Span}
use Rattle.template_compiler_grammar.specs.Nodes.{placed}
use Rattle.template_compiler_grammar.specs.TemplateNodes.{unpacked_node}
use Rattle.template_compiler_grammar.specs.Views.{node_of, nodes_in}
use Rattle.template_compiler_tree.specs.Tree.{list_literal}
use Rattle.template_compiler_tree.specs.View.{expression_of, expressions_in}
use Rattle.template_compiler_tree.specs.declared.expressions.Expr.{Expr}

-- several are put together, one is itself
pub several_unpacked : (xs : List Expr) (span : Span) → (length xs ≡ 1 → ⊥) →
    unpacked_node (nodes_in xs) span ≡ placed (list_literal (expressions_in xs)) (at span (places_in xs))
several_unpacked [] span h = refl
several_unpacked (x ∷ []) span h = absurd (h refl)
several_unpacked (x ∷ y ∷ xs) span h = refl

pub unpacked_held : {E : Type 0} (xs : List Expr) (span : Span) (r : Result Expr E) → (length xs ≡ 1 → ⊥) →
    IfOk r (λ e. expression_of e ≡ list_literal (expressions_in xs)) → IfOk r (λ e. places_of e ≡ at span (places_in xs)) →
    IfOk r (λ e. node_of e ≡ unpacked_node (nodes_in xs) span)
unpacked_held xs span (Ok e) h p q =
    ap (λ t. placed t (places_of e)) p ∙ ap (λ q. placed (list_literal (expressions_in xs)) q) q ∙ sym (several_unpacked xs span h)
unpacked_held xs span (Err e) h p q = tt
