-- A source's tree has its places, and one way to stand.
use Rattle.std.proofs.Common.{◌≡◌, ℕ, List, [], Result, Ok, Err, sym, ap, subst, ◌∙◌}
use Rattle.template_compiler_tree.specs.NodePlaces.{Places}
use Rattle.template_compiler_tree.specs.Tree.{Expression, Statement, template}
use Rattle.template_compiler_tokens.specs.Token.{Token, TokenFault}
use Rattle.template_compiler_tokens.proofs.Readings.{ok_tree}
use Rattle.template_compiler_syntax.proofs.Theorems.{one_tokens}
use Rattle.template_compiler_syntax.specs.Syntax.{Syntax, IsUsable}
use Rattle.template_compiler_tokenizer.specs.Spans.{words_in}
use Rattle.template_compiler_tokenizer.proofs.AllTokens.{one_spans, some_spans, words_are}
use Rattle.template_compiler_sources.specs.Scoped.{taken_spans, taken_words}
use Rattle.template_compiler_sources.specs.Spans.{token_spans}
use Rattle.template_compiler_sources.specs.Spelled.{IsSpelled, spelled_spans}
use Rattle.template_compiler_sources.proofs.LeftOut.{words_taken}
use Rattle.template_compiler_sources.proofs.Spelling.{one_spelled, one_spelling}
use Rattle.template_compiler_grammar.specs.TemplateGrammar.{IsTemplate}
use Rattle.template_compiler_grammar.specs.Nodes.{placed, Node}
use Rattle.template_compiler_grammar.specs.Reader.{expression_at}
use Rattle.template_compiler_grammar.specs.TemplateNodes.{PlacedStatement, PlacedTemplate}
use Rattle.template_compiler_grammar.specs.TemplateReader.{template_of}
use Rattle.template_compiler_grammar.proofs.Complete.{expression_complete}
use Rattle.template_compiler_grammar.proofs.TemplatesComplete.{template_complete}
use Rattle.template_compiler_sources.specs.Source.{IsSource, source_of, IsPlacedSource, placed_source, IsExpressionSource, expression_source, IsPlacedExpressionSource, placed_expression_source}

template_or : PlacedTemplate → Result PlacedTemplate TokenFault → PlacedTemplate
template_or t (Ok u) = u
template_or t (Err f) = t

same_template : {t u : PlacedTemplate} → ◌≡◌ {A = Result PlacedTemplate TokenFault} (Ok t) (Ok u) → t ≡ u
unfolding template_or
same_template {t = t} e = ap (template_or t) e

-- templates
pub one_source : (x : Syntax) (source : List ℕ) (s t : PlacedStatement) → IsUsable x → IsPlacedSource x source s → IsPlacedSource x source t → s ≡ t
one_source x source s t usable (placed_source {tokens = ts} {body = a} h v) (placed_source {tokens = us} {body = b} k w) =
    let same : ts ≡ us = one_spans x source ts us usable h k in
    let first = taken_spans x.scoped_blocks ts in
    let other = taken_spans x.scoped_blocks us in
    let both = sym (template_complete (token_spans first) (words_in first) a v) ∙
    ap (λ ts. template_of (token_spans (taken_spans x.scoped_blocks ts)) (words_in (taken_spans x.scoped_blocks ts))) same ∙
    template_complete (token_spans other) (words_in other) b w in
    ap (λ (t : PlacedTemplate). placed (template t.tree) t.places) (same_template both)

pub bare_source : (x : Syntax) (source : List ℕ) (s : PlacedStatement) → IsPlacedSource x source s → IsSource x source s.tree
bare_source x source s (placed_source {tokens = ts} {body = body} h w) =
    source_of (words_are x source ts h) (subst (λ ts. IsTemplate ts body) (words_taken x.scoped_blocks ts) w)

pub some_source : (x : Syntax) (source : List ℕ) (s : Statement) → IsUsable x → IsSource x source s →
    (places : Places) × IsPlacedSource x source (placed s places)
some_source x source s usable (source_of {tokens = ts} {body = body} h w) =
    let all = some_spans x source in
    let same = one_tokens x source ts (words_in all.0) usable h (words_are x source all.0 all.1) in
    let taken = ap (taken_words x.scoped_blocks) same ∙ sym (words_taken x.scoped_blocks all.0) in
    (_, placed_source all.1 (subst (λ ts. IsTemplate ts body) taken w))

-- expressions
spelled_once : (source : List ℕ) (ts us : List Token) (x : IsSpelled source ts) (y : IsSpelled source us) → spelled_spans [] x ≡ spelled_spans [] y
spelled_once source ts us x y =
    subst (λ us. (y : IsSpelled source us) → spelled_spans [] x ≡ spelled_spans [] y) (one_spelled source ts us x y)
    (λ y. one_spelling [] source ts x y) y

pub one_expression : (source : List ℕ) (e f : Node) → IsPlacedExpressionSource source e → IsPlacedExpressionSource source f → e ≡ f
one_expression source e f (placed_expression_source {tokens = ts} {tree = a} x v) (placed_expression_source {tokens = us} {tree = b} y w) =
    ok_tree (
    sym (expression_complete (spelled_spans [] x) 150 ts [] a v tt) ∙
    ap (λ spans. expression_at spans 150 ts) (spelled_once source ts us x y) ∙
    ap (λ ts. expression_at (spelled_spans [] y) 150 ts) (one_spelled source ts us x y) ∙
    expression_complete (spelled_spans [] y) 150 us [] b w tt)

pub bare_expression : (source : List ℕ) (e : Node) → IsPlacedExpressionSource source e → IsExpressionSource source e.tree
bare_expression source e (placed_expression_source x w) = expression_source x w

pub some_expression : (source : List ℕ) (e : Expression) → IsExpressionSource source e →
    (places : Places) × IsPlacedExpressionSource source (placed e places)
some_expression source e (expression_source x w) = (_, placed_expression_source x w)
