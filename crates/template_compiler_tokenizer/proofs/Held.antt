-- Tokens that are put behind others.
use Rattle.std.proofs.Common.{◌≡◌, ℕ, ◌<◌, ◌≤◌, inl, inr, List, [], ◌∷◌, ◌++◌, length, take, refl, sym, ◌∙◌, ap, subst, arith, append_assoc}
use Rattle.std.proofs.lemmas.List.{map-append}
use Rattle.template_values_errors.specs.declared.ErrorKind.{ErrorKind}
use Rattle.template_compiler_tree.specs.declared.span.Span.{Span}
use Rattle.template_compiler_syntax.specs.Syntax.{Syntax}
use Rattle.template_compiler_tokens.specs.SourcePlaces.{span_between}
use Rattle.template_compiler_tokens.specs.Stretches.{BeginsBy}
use Rattle.template_compiler_tokens.specs.Left.{IsRefused}
use Rattle.template_compiler_tokens.specs.View.{token_of}
use Rattle.template_compiler_tokens.specs.declared.token.Token.{Token}
use Rattle.template_compiler_tokenizer.specs.Held.{spanned_of, StandsIn, left_of, HoldsRead, IsFurther}
use Rattle.template_compiler_placed_tokens.specs.Left.{Placed, placed, left_at, data_tokens, tokens_in}
use Rattle.template_compiler_placed_tokens.specs.Reads.{IsStage, IsRefusedKind, ReadsPiece}
use Rattle.template_compiler_tokenizer.specs.Spans.{Spanned, spanned, spans_in, words_in}
use Rattle.template_compiler_tokenizer.specs.Tokenizer.{TokenizerView, placed_at, view_of, IsStanding}
use Rattle.template_compiler_tokens.specs.declared.stretch.Stretch.{Stretch}
use Rattle.template_compiler_syntax.specs.declared.starts.StartFinder.{StartFinder}
use Rattle.template_compiler_tokenizer.specs.declared.tokenizer.State.{State}
use Rattle.template_compiler_tokenizer.specs.declared.tokenizer.State.TheVariants.{Refused}
use Rattle.template_compiler_tokenizer.specs.declared.all.Standing.{Standing}
use Rattle.template_compiler_placed_tokens.specs.declared.inside.Piece.{Piece}
use Rattle.template_compiler_syntax.specs.declared.edges.Edge.{Edge}
use Rattle.template_compiler_placed_tokens.specs.declared.stage.Stage.{Stage}
use Rattle.template_compiler_placed_tokens.specs.declared.stage.Stage.TheVariants.{Data}

pub pushed : (old held : List (Token × Span)) (t : Token × Span) (span : Span) → held ≡ old ++ t ∷ [] → t.1 ≡ span →
    spanned_of held ≡ spanned_of old ++ spanned (token_of t.0) span ∷ []
pushed old held t span e same =
    ap spanned_of e ∙ map-append (λ (t : Token × Span). spanned (token_of t.0) t.1) old (t ∷ []) ∙
    ap (λ (g : Span). spanned_of old ++ spanned (token_of t.0) g ∷ []) same

module _ (x : Syntax) (s : List ℕ) (at next : Standing) (piece : Piece) (stage : next.stage ≡ piece.stage) (from : next.from ≡ piece.next) where
  left_behind : left_of x s next ≡ left_at x s piece.stage piece.next
  left_behind = ap (λ (g : Stage). left_at x s g next.from) stage ∙ ap (λ n. left_at x s piece.stage n) from

  left_there : ReadsPiece x s at.from (left_of x s at) piece →
      left_of x s at ≡ placed (token_of piece.token) (piece.begin) (piece.end) ∷ left_of x s next
  left_there read = read.first ∙ ap (λ ps. placed (token_of piece.token) (piece.begin) (piece.end) ∷ ps) (sym left_behind)

  pub fewer_left : ReadsPiece x s at.from (left_of x s at) piece → length (left_of x s next) < length (left_of x s at)
  fewer_left read = let e = ap length (left_there read) in omega arith

  pub stands_next : ReadsPiece x s at.from (left_of x s at) piece → BeginsBy s piece.next next.stretch → StandsIn x s next
  stands_next read begins = (
    subst (λ n. IsStage x s next.stage n) (sym from) (subst (λ (g : Stage). IsStage x s g piece.next) (sym stage) read.stage),
    subst (λ n. BeginsBy s n next.stretch) (sym from) begins,
  )

  pub holds_next : (old held more : List (Token × Span)) (left : List Placed) → ReadsPiece x s at.from (left_of x s at) piece →
      HoldsRead s old left held (left_of x s at) →
      spanned_of more ≡ spanned_of held ++ spanned (token_of piece.token) (span_between (take (piece.begin) s) (take (piece.end) s)) ∷ [] →
      HoldsRead s old left more (left_of x s next)
  holds_next old held more left read before e =
      let one : Spanned = spanned (token_of piece.token) (span_between (take (piece.begin) s) (take (piece.end) s)) in
      let rest = spans_in s (left_of x s next) in
      before ∙ ap (λ ps. spanned_of held ++ spans_in s ps) (left_there read) ∙ sym (append_assoc (spanned_of held) (one ∷ []) rest) ∙
      ap (λ ts. ts ++ rest) (sym e)

  pub further_next : (first : Standing) → ReadsPiece x s at.from (left_of x s at) piece → IsFurther x s first at → IsFurther x s first next
  further_next first read further =
      let fewer = fewer_left read in
      let low = read.cut.low in
      let ordered = read.cut.ordered in
      let high = read.cut.high in
      let a = further.0 in
      let b = further.1 in
      (omega arith, omega arith)

-- behind data that was read
pub still_held : (x : Syntax) (s : List ℕ) (old mid held : List (Token × Span)) (first rest : List Placed) (g : Stage) (left : Edge) (from : ℕ) →
    g ≡ Data left → HoldsRead s old first mid (left_at x s g from) → HoldsRead s mid (data_tokens x s left from) held rest →
    HoldsRead s old first held rest
still_held x s old mid held first rest g left from e before then =
    subst (λ (h : Stage). HoldsRead s old first mid (left_at x s h from)) e before ∙ then

pub still_fewer : (x : Syntax) (s : List ℕ) (rest : List Placed) (g : Stage) (left : Edge) (from : ℕ) → g ≡ Data left →
    length rest ≤ length (data_tokens x s left from) → length rest ≤ length (left_at x s g from)
still_fewer x s rest g left from e fewer = subst (λ (h : Stage). length rest ≤ length (left_at x s h from)) (sym e) fewer

pub words_spans : (s : List ℕ) (ps : List Placed) → words_in (spans_in s ps) ≡ tokens_in ps
words_spans s [] = refl
words_spans s (p ∷ ps) = ap (λ ts. p.token ∷ ts) (words_spans s ps)

pub refused_words : (s : List ℕ) (left : List Placed) (kind : ErrorKind) → IsRefusedKind left kind → IsRefused (words_in (spans_in s left)) (kind ∷ [])
refused_words s left kind (inl memory) = inl (ap (λ (k : ErrorKind). k ∷ []) memory)
refused_words s left kind (inr (fault, begin, end, e, k)) =
    inr (fault, ap (λ ps. words_in (spans_in s ps)) e, ap (λ (k : ErrorKind). k ∷ []) k)

-- a tokenizer's tokens are those of its spans
pub view_words : (name whole : List ℕ) (x : Syntax) (s : List ℕ) (state : State) (i : ℕ) (v : TokenizerView) → view_of name whole x s state i ≡ v →
    words_in v.spans ≡ v.left
view_words name whole x s state i v e =
    subst (λ (v : TokenizerView). words_in v.spans ≡ v.left) e (words_spans s (placed_at x s state i))

-- one that was refused tells why
pub view_refused : (name whole : List ℕ) (x : Syntax) (s : List ℕ) (finder : StartFinder) (state : State) (i : ℕ) (stretch : Stretch) (stage : Stage)
    (kind : ErrorKind) (v : TokenizerView) → view_of name whole x s state i ≡ v → IsStanding x s finder state i stretch → state ≡ Refused kind stage →
    IsRefused (words_in v.spans) (kind ∷ [])
view_refused name whole x s finder state i stretch stage kind v e standing refused =
    let why = refused_words s (left_at x s stage i) kind (subst (λ (g : State). IsStanding x s finder g i stretch) refused standing) in
    subst (λ (v : TokenizerView). IsRefused (words_in v.spans) (kind ∷ [])) e
    (subst (λ (g : State). IsRefused (words_in (spans_in s (placed_at x s g i))) (kind ∷ [])) (sym refused) why)
