-- Lists that hold nothing, and those that hold several.
use Rattle.std.proofs.Common.{◌≡◌, List, [], ◌∷◌, length, ◌==◌, Ok, Err, refl, sym, ap, ◌∙◌, arith}
use Rattle.std.specs.Prelude.{Result, IfOk}
use Rattle.template_compiler_tree.specs.Tree.{tuple_literal}
use Rattle.template_compiler_tree.specs.ExpressionPlaces.{places_of, places_in}
use Rattle.template_compiler_tree.specs.NodePlaces.{at}
use Rattle.template_compiler_tree.specs.declared.span.Span.{Span}
use Rattle.template_compiler_grammar.specs.Nodes.{placed}
use Rattle.template_compiler_grammar.specs.TemplateNodes.{together_node}
use Rattle.template_compiler_grammar.specs.Views.{node_of, nodes_in}
use Rattle.std.proofs.lemmas.Bool.Decides.{nat_tests}
use Rattle.template_compiler_tree.specs.View.{expression_of, expressions_in}
use Rattle.template_compiler_tree.specs.declared.expressions.Expr.{Expr}
use Rattle.template_compiler_grammar.specs.TemplateReaderParts.{is_nothing}

pub nothing_in : (es : List Expr) → is_nothing (expressions_in es) ≡ (length es == 0)
nothing_in [] = refl
nothing_in (e ∷ es) = grind (arith, nat_tests)

several_together : (xs : List Expr) (span : Span) → (length xs ≡ 1 → ⊥) →
    together_node (nodes_in xs) span ≡ placed (tuple_literal (expressions_in xs)) (at span (places_in xs))
several_together [] span h = refl
several_together (x ∷ []) span h = absurd (h refl)
several_together (x ∷ y ∷ xs) span h = refl

pub together_held : {E : Type 0} (xs : List Expr) (span : Span) (r : Result Expr E) → (length xs ≡ 1 → ⊥) →
    IfOk r (λ e. expression_of e ≡ tuple_literal (expressions_in xs)) → IfOk r (λ e. places_of e ≡ at span (places_in xs)) →
    IfOk r (λ e. node_of e ≡ together_node (nodes_in xs) span)
together_held xs span (Ok e) h p q =
    ap (λ t. placed t (places_of e)) p ∙ ap (λ q. placed (tuple_literal (expressions_in xs)) q) q ∙ sym (several_together xs span h)
together_held xs span (Err e) h p q = tt
