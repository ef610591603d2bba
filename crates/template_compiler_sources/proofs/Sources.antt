-- A source's tree, by what is read of its tokens.
use Rattle.std.proofs.Common.{◌≡◌, true, false, if◌then◌else◌, List, [], ◌∷◌, ℕ, inl, inr, Ok, Err, refl, sym, ap, subst, ◌∙◌}
use Rattle.template_values_errors.specs.declared.ErrorKind.{ErrorKind}
use Rattle.template_compiler_tree.specs.Tree.{Expression, Statement, template, Statements}
use Rattle.template_compiler_tree.specs.declared.span.Span.{Span}
use Rattle.template_compiler_tree_statements.specs.View.{statement_of}
use Rattle.template_compiler_tree.specs.declared.span.Spanned.{Spanned}
use Rattle.template_compiler_tree_statements.specs.declared.statements.Template.{Template as TemplateNode}
use Rattle.template_compiler_tree_statements.specs.declared.statements.Stmt.{Template as Whole}
use Rattle.template_compiler_stream.specs.Refusals.{fault_of}
use Rattle.template_compiler_stream.specs.declared.refusal.Refusal.{Refusal}
use Rattle.template_compiler_stream.specs.declared.refusal.Refusal.TheVariants as refusals
use Rattle.template_compiler_sources.specs.Kinds.{refused_kind}
use Rattle.template_compiler_tokens.specs.Token.{Token, TokenFault, bad_syntax}
use Rattle.template_compiler_tokens.specs.Places.{next_span}
use Rattle.template_compiler_tokens.specs.Steps.{Read}
use Rattle.template_compiler_tree.specs.NodePlaces.{at}
use Rattle.template_compiler_sources.specs.Scoped.{taken_spans, taken_words}
use Rattle.template_compiler_sources.specs.Spans.{HoldsTokens, token_spans}
use Rattle.template_compiler_sources.specs.Spelled.{HoldsSpelled, IsSpelled, spelled_spans}
use Rattle.template_compiler_sources.proofs.Spelling.{one_spelled}
use Rattle.template_compiler_syntax.specs.Syntax.{Syntax, IsUsable}
use Rattle.template_compiler_syntax.specs.Flat.{IsTokens}
use Rattle.template_compiler_syntax.proofs.Theorems.{one_tokens}
use Rattle.template_compiler_grammar.specs.TemplateGrammar.{Around, nothing_around}
use Rattle.template_compiler_grammar.specs.Nodes.{placed, Node}
use Rattle.template_compiler_grammar.specs.Reader as reader
use Rattle.template_compiler_grammar.specs.TemplateNodes.{PlacedStatement, PlacedStatements, PlacedTemplate, bare_template}
use Rattle.template_compiler_grammar.specs.TemplateReader as placed_reader
use Rattle.template_compiler_grammar.specs.Views.{statement_node_of}
use Rattle.template_compiler_grammar.specs.TreeReader.{expression_at, template_of}
use Rattle.template_compiler_grammar.proofs.ReaderLaws.{expression_sound_placed, tree_complete as expression_complete}
use Rattle.template_compiler_grammar.proofs.Sound.{expression_sound}
use Rattle.template_compiler_grammar.proofs.TemplateLaws.{template_sound_placed, tree_complete as template_complete, read_bare}
use Rattle.template_compiler_grammar.proofs.TemplatesSound.{template_erased, template_sound}
use Rattle.template_compiler_stream.specs.Spans.{PlacedTokens}
use Rattle.template_compiler_tokenizer.specs.Spans.{Spanned as PlacedToken, HasSpans, words_in}
use Rattle.template_compiler_grammar.specs.TemplateTrees.{are_distinct, blocks_among}
use Rattle.template_compiler_stream.specs.Tags.{is_done}
use Rattle.template_compiler_sources.specs.Source.{IsSource, source_of, IsPlacedSource, placed_source, IsFaulty, IsExpressionSource, expression_source, IsPlacedExpressionSource, placed_expression_source, IsFaultyExpression, RefusesSource, RefusesExpression}
use Rattle.template_compiler_sources.specs.Wholes.{nothing_behind, expression_alone, ParsedTemplate, ParsedExpression}

-- a template's source
pub found_source : (x : Syntax) (source : List ℕ) (tokens : List Token) (body : Statements) → IsTokens x source tokens →
    template_of (taken_words x.scoped_blocks tokens) ≡ Ok body → IsSource x source (template body)
found_source x source tokens body h e = source_of h (template_sound (taken_words x.scoped_blocks tokens) body e)

no_other : (x : Syntax) (source : List ℕ) (tokens : List Token) (f : TokenFault) → IsUsable x → IsTokens x source tokens →
    template_of (taken_words x.scoped_blocks tokens) ≡ Err f → (tree : Statement) → IsSource x source tree → ⊥
no_other x source tokens f u h e tree (source_of {tokens = others} {body = body} k t) =
    let read = template_complete (taken_words x.scoped_blocks others) body t in
    let same = one_tokens x source others tokens u k h in
    let both : Ok body ≡ Err f = sym read ∙ ap (λ ts. template_of (taken_words x.scoped_blocks ts)) same ∙ e in cc

pub faulty_source : (x : Syntax) (source : List ℕ) (tokens : List Token) (f : TokenFault) → IsUsable x → IsTokens x source tokens →
    template_of (taken_words x.scoped_blocks tokens) ≡ Err f → IsFaulty x source f
faulty_source x source tokens f u h e = record {
  tokens = tokens;
  spelled = h;
  ends = e;
  treeless = no_other x source tokens f u h e;
}

-- an expression's source
alone_found : (ts : List Token) (r : Read Expression) (e : Expression) → expression_at 150 ts ≡ r → nothing_behind r ≡ Ok e → expression_at 150 ts ≡ Ok (e, [])
alone_found ts (Ok (f, [])) e read h = let same : f ≡ e = cc in read ∙ ap (λ e. Ok (e, [])) same
alone_found ts (Ok (f, u ∷ us)) e read h = cc
alone_found ts (Err g) e read h = cc

pub found_expression : (source : List ℕ) (tokens : List Token) (e : Expression) → IsSpelled source tokens →
    expression_alone tokens ≡ Ok e → IsExpressionSource source e
found_expression source tokens e h read =
    expression_source h (((expression_sound 150 tokens).tree e [] (alone_found tokens (expression_at 150 tokens) e refl read)).0)

no_expression : (source : List ℕ) (tokens : List Token) (f : TokenFault) → IsSpelled source tokens → expression_alone tokens ≡ Err f →
    (tree : Expression) → IsExpressionSource source tree → ⊥
no_expression source tokens f h e tree (expression_source {tokens = others} k t) =
    let read = expression_complete 150 others [] tree t tt in
    let same = one_spelled source others tokens k h in
    let both : expression_alone others ≡ Err f = subst (λ ts. expression_alone ts ≡ Err f) (sym same) e in
    let found : expression_alone others ≡ Ok tree = ap nothing_behind read in cc

pub faulty_expression : (source : List ℕ) (tokens : List Token) (f : TokenFault) → IsSpelled source tokens →
    expression_alone tokens ≡ Err f → IsFaultyExpression source f
faulty_expression source tokens f h e = record {
  tokens = tokens;
  spelled = h;
  ends = e;
  treeless = no_expression source tokens f h e;
}

-- what fails with places fails without them
pub fails_bare : (spans : List Span) (ts : List Token) (f : TokenFault) → placed_reader.template_of spans ts ≡ Err f → template_of ts ≡ Err f
unfolding bare_template
fails_bare spans ts f read = sym (template_erased spans ts) ∙ ap bare_template read

-- what is answered of a source, by what is read of its tokens
pub found_whole : (x : Syntax) (source : List ℕ) (spans : List Span) (tokens left : List Token) (node : Spanned TemplateNode) →
    IsTokens x source left → tokens ≡ taken_words x.scoped_blocks left → ParsedTemplate (placed_reader.template_of spans tokens) (Ok node) →
    IsSource x source (statement_of (Whole node))
found_whole x source spans tokens left node h e (body, is, read) =
    subst (λ t. IsSource x source t) (sym (ap (λ (s : PlacedStatement). s.tree) is))
    (found_source x source left body.tree h (subst (λ ts. template_of ts ≡ Ok body.tree) e (read_bare spans tokens body read)))

placed_whole : (x : Syntax) (source : List ℕ) (tokens : List PlacedToken) (t : PlacedTemplate) → HasSpans x source tokens →
    placed_reader.template_of (token_spans (taken_spans x.scoped_blocks tokens)) (words_in (taken_spans x.scoped_blocks tokens)) ≡ Ok t →
    IsPlacedSource x source (placed (template t.tree) t.places)
placed_whole x source tokens t h read =
    let taken = taken_spans x.scoped_blocks tokens in
    let sound = template_sound_placed (token_spans taken) (words_in taken) t read in
    subst (λ p. IsPlacedSource x source (placed (template t.tree) p)) (sym sound.1) (placed_source h sound.0)

-- a stream of all tokens
pub found_places : (x : Syntax) (source : List ℕ) (tokens : List PlacedToken) (stream : PlacedTokens) (node : Spanned TemplateNode) →
    HasSpans x source tokens → HoldsTokens (taken_spans x.scoped_blocks tokens) stream →
    ParsedTemplate (placed_reader.template_of stream.spans stream.left) (Ok node) →
    IsPlacedSource x source (statement_node_of (Whole node))
found_places x source tokens stream node h held (body, is, read) =
    let all = subst (λ ts. placed_reader.template_of (token_spans (taken_spans x.scoped_blocks tokens)) ts ≡ Ok body) held.words
    (subst (λ spans. placed_reader.template_of spans stream.left ≡ Ok body) held.spans read) in
    subst (λ s. IsPlacedSource x source s) (sym is) (placed_whole x source tokens body h all)

pub refused_whole : (x : Syntax) (source : List ℕ) (spans : List Span) (tokens left : List Token) (e : Refusal) (kinds : List ErrorKind) →
    IsUsable x → IsTokens x source left → tokens ≡ taken_words x.scoped_blocks left → ParsedTemplate (placed_reader.template_of spans tokens) (Err e) →
    kinds ≡ refused_kind e ∷ [] → RefusesSource x source kinds
refused_whole x source spans tokens left (refusals.Token f) kinds u h e read is =
    subst (λ k. RefusesSource x source k) (sym is)
    (inr (inr (
      fault_of f,
      refl,
      faulty_source x source left (fault_of f) u h (subst (λ ts. template_of ts ≡ Err (fault_of f)) e (fails_bare spans tokens (fault_of f) read)),
    )))
refused_whole x source spans tokens left refusals.OutOfMemory kinds u h e read is = inl is

pub found_alone : (source : List ℕ) (stream : PlacedTokens) (e : Node) → HoldsSpelled source stream →
    reader.expression_at stream.spans 150 stream.left ≡ Ok (e, []) → IsPlacedExpressionSource source e
found_alone source stream e held read =
    let spans = spelled_spans [] held.tokens in
    let all = subst (λ spans. reader.expression_at spans 150 stream.left ≡ Ok (e, [])) held.spans read in
    let sound = expression_sound_placed spans 150 stream.left [] e all tt in
    subst (λ p. IsPlacedExpressionSource source (placed e.tree p)) (sym sound.1) (placed_expression_source held.tokens sound.0)

pub refused_alone : (source : List ℕ) (tokens : List Token) (e : Refusal) (kinds : List ErrorKind) → IsSpelled source tokens →
    ParsedExpression (expression_alone tokens) (Err e) → kinds ≡ refused_kind e ∷ [] → RefusesExpression source kinds
refused_alone source tokens (refusals.Token f) kinds h read is =
    subst (λ k. RefusesExpression source k) (sym is) (inr (inr (fault_of f, refl, faulty_expression source tokens (fault_of f) h read)))
refused_alone source tokens refusals.OutOfMemory kinds h read is = inl is

-- a template's statements with nothing behind them, where a block's name stands twice
pub whole_twice : (spans : List Span) (ts us : List Token) (ss : PlacedStatements) (names : List (List ℕ)) (p : Around) →
    placed_reader.statements_at spans 150 p ts ≡ Ok (ss, us) → p ≡ nothing_around → is_done us ≡ true → names ≡ blocks_among ss.tree →
    are_distinct names ≡ false → placed_reader.template_of spans ts ≡ Err bad_syntax
unfolding placed_reader.template_of placed_reader.template_behind
whole_twice spans ts [] ss names p e around d n h =
    ap (λ p. placed_reader.whole spans (next_span spans ts) (placed_reader.statements_at spans 150 p ts)) (sym around) ∙
    ap (λ r. placed_reader.whole spans (next_span spans ts) r) e ∙
    ap (λ b. if b then Ok (placed ss.tree (at (reader.up_to spans (next_span spans ts) []) ss.places)) else Err bad_syntax)
    (ap (λ ns. are_distinct ns) (sym n) ∙ h)
whole_twice spans ts (t ∷ us) ss names p e around d n h = cc
