-- A primary that is a word.
use Rattle.std.proofs.Common.{◌≡◌, ℕ, Result, Ok, List, [], ◌∷◌, Some, refl, sym, subst, ap, ◌∙◌}
use Rattle.template_compiler_tokens.specs.Token.{Token, identifier, symbol, paren_open, bracket_open, brace_open}
use Rattle.template_compiler_stream.specs.declared.refusal.Refusal.{Refusal}
use Rattle.template_compiler_expression_parts.specs.Parsed.{Parsed, literal_at}
use Rattle.template_compiler_tree.specs.declared.span.Span.{Span}
use Rattle.template_compiler_tree.specs.declared.expressions.Expr.{Expr}
use Rattle.template_compiler_tree.specs.NodePlaces.{no_parts}
use Rattle.template_compiler_tokens.specs.Places.{next_span}
use Rattle.template_compiler_grammar.specs.ReaderParts.{word_tree}
use Rattle.template_compiler_grammar.specs.Nodes.{node}
use Rattle.template_compiler_grammar.specs.Reader.{nothing_deeper, primary_by}
use Rattle.template_compiler_grammar.specs.Words.{literal_word}
use Rattle.template_compiler_stream.specs.Left.{passed}
use Rattle.template_compiler_stream.specs.Signs.{next_word}

word_primary : (spans : List Span) (n : List ℕ) (ts : List Token) → Some n ≡ next_word ts →
    primary_by spans nothing_deeper ts ≡ Ok (node (word_tree (literal_word n) n) (next_span spans ts) no_parts, passed ts)
unfolding primary_by
word_primary spans n [] e = cc
word_primary spans n (identifier m ∷ ts) e =
    (let same : m ≡ n = cc in
    ap (λ k. Ok (node (word_tree (literal_word k) k) (next_span spans (identifier m ∷ ts)) no_parts, ts)) same)
word_primary spans n (t ∷ ts) e = cc

pub word_first : (spans : List Span) (n : List ℕ) (start : Span) (old new : List Token) (r : Result Expr Refusal) → Some n ≡ next_word old →
    start ≡ next_span spans old → new ≡ passed old → Parsed (Ok (node (word_tree (literal_word n) n) start no_parts, new)) new r →
    Parsed (primary_by spans nothing_deeper old) new r
word_first spans n start old new r e f g h =
    let whole : primary_by spans nothing_deeper old ≡ Ok (node (word_tree (literal_word n) n) start no_parts, new) =
    word_primary spans n old e ∙ ap (λ s. Ok (node (word_tree (literal_word n) n) s no_parts, passed old)) (sym f) ∙
    ap (λ us. Ok (node (word_tree (literal_word n) n) start no_parts, us)) (sym g) in
    subst (λ m. Parsed m new r) (sym whole) h

-- a primary without brackets, by its first token
literal_same : (spans : List Span) (t : Token) (ts : List Token) →
    primary_by spans nothing_deeper (t ∷ ts) ≡ literal_at spans (next_span spans (t ∷ ts)) t ts
unfolding primary_by literal_at
literal_same spans (symbol paren_open) ts = refl
literal_same spans (symbol bracket_open) ts = refl
literal_same spans (symbol brace_open) ts = refl
literal_same spans t ts = refl

pub literal_first : (spans all : List Span) (start : Span) (t : Token) (old mid new : List Token) (r : Result Expr Refusal) →
    old ≡ t ∷ mid → start ≡ next_span spans old → all ≡ spans → Parsed (literal_at all start t mid) new r →
    Parsed (primary_by spans nothing_deeper old) new r
literal_first spans all start t old mid new r e f g h =
    let here = subst (λ spans. Parsed (literal_at spans start t mid) new r) g h in
    let there = subst (λ s. Parsed (literal_at spans s t mid) new r) (f ∙ ap (next_span spans) e) here in
    subst (λ m. Parsed m new r) (sym (ap (primary_by spans nothing_deeper) e ∙ literal_same spans t mid)) there
