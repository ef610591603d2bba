-- The tokens of a source, less where they stand.
use Rattle.std.proofs.Common.{◌≡◌, ℕ, Bool, true, false, List, [], ◌∷◌, ◌++◌, length, None, Some, refl, sym, ◌∙◌, ap, append_assoc, append-nil}
use Rattle.std.specs.Prelude.{if◌then◌else◌, nat_lt}
use Rattle.template_compiler_syntax.specs.declared.StartMarker.{StartMarker}
use Rattle.template_compiler_syntax.specs.declared.StartMarker.TheVariants.{Variable, Block, Comment, LineStatement, LineComment}
use Rattle.template_compiler_syntax.specs.Syntax.{Syntax, IsUsable}
use Rattle.template_compiler_tokens.specs.Token.{Token, template_data, variable_start, variable_end, block_start, block_end, bad, bad_syntax}
use Rattle.template_compiler_tokens.proofs.OneToken.{one_token, some_token}
use Rattle.template_compiler_syntax.specs.declared.edges.Edge.{Edge}
use Rattle.template_compiler_syntax.specs.declared.edges.Edge.TheVariants.{Nothing, Beside}
use Rattle.template_compiler_syntax.specs.declared.edges.Trim.{Trim}
use Rattle.template_compiler_syntax.specs.declared.edges.Trim.TheVariants.{Plain}
use Rattle.template_compiler_syntax.specs.Places.{stretch}
use Rattle.template_compiler_syntax.specs.Segments.{inside_from, Ending, HasInside, ended, blank, token, no_token, HoldsInside, start_sign, Piece, data_piece, segment, raw_piece, endless_piece, print_segment, block_segment, raw_segment, comment_segment, line_statement_segment, line_comment_segment, endless_print, endless_block, endless_line_statement, endless_raw, endless_comment, HasPieces, no_start, next_start, endless_start}
use Rattle.template_compiler_syntax.specs.Stripping.{stripped, stripped_from, stripped_to, next_edge, with_data}
use Rattle.template_compiler_syntax.specs.Flat.{template_text, IsTokens, source_tokens, tokens_of}
use Rattle.template_compiler_syntax.proofs.One.{one_list}
use Rattle.template_compiler_syntax.proofs.Bytes.{takes_bytes}
use Rattle.template_compiler_syntax.proofs.Pieces.{some_inside, some_list}
use Rattle.template_compiler_placed_tokens.specs.Left.{Placed, tokens_in, end_token, placed_in, inside_of, placed_of, pieces_at, data_tokens}
use Rattle.template_compiler_tokenizer.specs.Spans.{Spanned, spans_in, words_in, HasSpans, source_spans}
use Rattle.template_compiler_placed_tokens.proofs.OnePlaced.{one_placed}

with_end : StartMarker → List Token → Ending → List Token
with_end k tokens None = tokens
with_end k tokens (Some p) = tokens ++ (end_token k ∷ [])

inside_words : {x : Syntax} {s : List ℕ} {k : StartMarker} {d i : ℕ} {tokens : List Token} {ending : Ending} (h : HasInside x s k d i tokens ending) →
    tokens_in (placed_in h) ≡ with_end k tokens ending
unfolding with_end
inside_words (ended over) = refl
inside_words (blank none white rest) = inside_words rest
inside_words {ending = None} (token {t = t} none black stands good rest) = ap (λ ts. t ∷ ts) (inside_words rest)
inside_words {ending = Some p} (token {t = t} none black stands good rest) = ap (λ ts. t ∷ ts) (inside_words rest)
inside_words (no_token none black stands) = refl

words_append : (ps qs : List Placed) → tokens_in (ps ++ qs) ≡ tokens_in ps ++ tokens_in qs
words_append [] qs = refl
words_append (p ∷ ps) qs = ap (λ ts. p.token ∷ ts) (words_append ps qs)

inside_of_words : {x : Syntax} {s : List ℕ} {k : StartMarker} {d i : ℕ} {tokens : List Token} {ending : Ending} → HasInside x s k d i tokens ending →
    tokens_in (inside_of x s k d i) ≡ with_end k tokens ending
unfolding inside_of
inside_of_words {x = x} {s = s} {k = k} {d = d} {i = i} h =
    ap tokens_in (one_placed ((some_inside one_token some_token takes_bytes x s k d i).2) h) ∙ inside_words h

segment_words : {x : Syntax} {s : List ℕ} {k : StartMarker} {d i : ℕ} {tokens : List Token} {p : Trim × ℕ} → HasInside x s k d i tokens (Some p) →
    (behind : List Placed) → tokens_in (inside_of x s k d i ++ behind) ≡ tokens ++ (end_token k ∷ tokens_in behind)
unfolding with_end
segment_words {x = x} {s = s} {k = k} {d = d} {i = i} {tokens = tokens} h behind =
    words_append (inside_of x s k d i) behind ∙
    (ap (λ ts. ts ++ tokens_in behind) (inside_of_words h) ∙ append_assoc tokens (end_token k ∷ []) (tokens_in behind))

endless_words : {x : Syntax} {s : List ℕ} {k : StartMarker} {d i : ℕ} {tokens : List Token} → HasInside x s k d i tokens None →
    tokens_in (inside_of x s k d i ++ []) ≡ tokens
unfolding with_end
endless_words {x = x} {s = s} {k = k} {d = d} {i = i} h = ap tokens_in (append-nil (inside_of x s k d i)) ∙ inside_of_words h

module _ (x : Syntax) (s : List ℕ) where
  abbrev Same : List Piece → Type 0
  Same pieces = tokens_in (placed_of x s pieces) ≡ tokens_of s pieces

  data_words : (from to : ℕ) (pieces : List Piece) → Same pieces → Same (with_data from to pieces)
  data_words from to pieces same = step (nat_lt from to)
    where
      step : (t : Bool) → Same (if t then data_piece from to ∷ pieces else pieces)
      step true = ap (λ ts. template_data (stretch s from to) ∷ ts) same
      step false = same

  print_words : (i : ℕ) {tokens : List Token} {p : Trim × ℕ} (pieces : List Piece) → HoldsInside x s Variable i tokens (Some p) → Same pieces →
      variable_start ∷ tokens_in (inside_of x s Variable 0 (inside_from x s Variable i) ++ placed_of x s pieces) ≡
      variable_start ∷ tokens ++ (variable_end ∷ tokens_of s pieces)
  print_words i {tokens = tokens} pieces h same =
      ap (λ ts. variable_start ∷ ts) (segment_words h (placed_of x s pieces) ∙ ap (λ ts. tokens ++ (variable_end ∷ ts)) same)

  block_words : (i : ℕ) {tokens : List Token} {p : Trim × ℕ} (pieces : List Piece) → HoldsInside x s Block i tokens (Some p) → Same pieces →
      block_start ∷ tokens_in (inside_of x s Block 0 (inside_from x s Block i) ++ placed_of x s pieces) ≡
      block_start ∷ tokens ++ (block_end ∷ tokens_of s pieces)
  block_words i {tokens = tokens} pieces h same =
      ap (λ ts. block_start ∷ ts) (segment_words h (placed_of x s pieces) ∙ ap (λ ts. tokens ++ (block_end ∷ ts)) same)

  line_words : (i : ℕ) {tokens : List Token} {p : Trim × ℕ} (pieces : List Piece) → HoldsInside x s LineStatement i tokens (Some p) → Same pieces →
      block_start ∷ tokens_in (inside_of x s LineStatement 0 (inside_from x s LineStatement i) ++ placed_of x s pieces) ≡
      block_start ∷ tokens ++ (block_end ∷ tokens_of s pieces)
  line_words i {tokens = tokens} pieces h same =
      ap (λ ts. block_start ∷ ts) (segment_words h (placed_of x s pieces) ∙ ap (λ ts. tokens ++ (block_end ∷ ts)) same)

  begin_words : (left : Edge) (from i : ℕ) (pieces : List Piece) → Same (stripped x s Nothing pieces) → Same (stripped x s left (data_piece from i ∷ pieces))
  begin_words left from i pieces same =
      data_words (stripped_from x s left from i) (stripped_to x s (next_edge x s pieces) (stripped_from x s left from i) i) (stripped x s Nothing pieces) same

  pub same_words : (left : Edge) {from : ℕ} {pieces : List Piece} → HasPieces x s from pieces → Same (stripped x s left pieces)
  same_words left (no_start {from = from} none) = begin_words left from (length s) [] refl
  same_words left (next_start {from = from} {i = i} {next = next} {pieces = pieces} start (print_segment {tokens = tokens} {last = last} h) rest) =
      begin_words left from i (segment Variable i tokens last next ∷ pieces)
      (print_words i (stripped x s (Beside Variable last) pieces) h (same_words (Beside Variable last) rest))
  same_words left (next_start {from = from} {i = i} {next = next} {pieces = pieces} start (block_segment {tokens = tokens} {last = last} h other) rest) =
      begin_words left from i (segment Block i tokens last next ∷ pieces)
      (block_words i (stripped x s (Beside Block last) pieces) h (same_words (Beside Block last) rest))
  same_words left (next_start {from = from} {i = i} {next = next} {pieces = pieces} start (raw_segment {inner = inner} {last = last} {from = begin} {to = to} h first end) rest) =
      let start_of = stripped_from x s (Beside Block inner) begin to in
      begin_words left from i (raw_piece i inner begin to last next ∷ pieces)
      (data_words start_of (stripped_to x s (Beside Block (start_sign x s Block to)) start_of to) (stripped x s (Beside Block last) pieces)
      (same_words (Beside Block last) rest))
  same_words left (next_start {from = from} {i = i} {next = next} {pieces = pieces} start (comment_segment {last = last} first l n) rest) =
      begin_words left from i (segment Comment i [] last next ∷ pieces) (same_words (Beside Comment last) rest)
  same_words left (next_start {from = from} {i = i} {next = next} {pieces = pieces} start (line_statement_segment {tokens = tokens} {last = last} h) rest) =
      begin_words left from i (segment LineStatement i tokens last next ∷ pieces)
      (line_words i (stripped x s (Beside LineStatement last) pieces) h (same_words (Beside LineStatement last) rest))
  same_words left (next_start {from = from} {i = i} {next = next} {pieces = pieces} start (line_comment_segment first n) rest) =
      begin_words left from i (segment LineComment i [] Plain next ∷ pieces) (same_words (Beside LineComment Plain) rest)
  same_words left (endless_start {from = from} {i = i} start (endless_print {tokens = tokens} h)) =
      begin_words left from i (endless_piece Variable i (variable_start ∷ tokens) ∷ []) (ap (λ ts. variable_start ∷ ts) (endless_words h))
  same_words left (endless_start {from = from} {i = i} start (endless_block {tokens = tokens} h)) =
      begin_words left from i (endless_piece Block i (block_start ∷ tokens) ∷ []) (ap (λ ts. block_start ∷ ts) (endless_words h))
  same_words left (endless_start {from = from} {i = i} start (endless_line_statement {tokens = tokens} h)) =
      begin_words left from i (endless_piece LineStatement i (block_start ∷ tokens) ∷ []) (ap (λ ts. block_start ∷ ts) (endless_words h))
  same_words left (endless_start {from = from} {i = i} start (endless_raw h none)) =
      begin_words left from i (endless_piece Block i (bad bad_syntax ∷ []) ∷ []) refl
  same_words left (endless_start {from = from} {i = i} start (endless_comment none)) =
      begin_words left from i (endless_piece Comment i (bad bad_syntax ∷ []) ∷ []) refl

-- the tokens of a text from its start on are its tokens
pub all_tokens : (x : Syntax) (source text : List ℕ) → text ≡ template_text x source → IsTokens x source (tokens_in (data_tokens x text Nothing 0))
unfolding pieces_at
all_tokens x source text e =
    let s = template_text x source in
    let has = (some_list one_token some_token takes_bytes x s 0).1 in
    rw e (source_tokens has (same_words x s Nothing has))

-- and they stand where its tokens do
pub all_spans : (x : Syntax) (source text : List ℕ) → text ≡ template_text x source → HasSpans x source (spans_in text (data_tokens x text Nothing 0))
unfolding pieces_at
all_spans x source text e = rw e (source_spans ((some_list one_token some_token takes_bytes x (template_text x source) 0).1) refl)

words_spans : (s : List ℕ) (ps : List Placed) → words_in (spans_in s ps) ≡ tokens_in ps
words_spans s [] = refl
words_spans s (p ∷ ps) = ap (λ ts. p.token ∷ ts) (words_spans s ps)

pub some_spans : (x : Syntax) (source : List ℕ) → (tokens : List Spanned) × HasSpans x source tokens
some_spans x source = (_, source_spans ((some_list one_token some_token takes_bytes x (template_text x source) 0).1) refl)

pub one_spans : (x : Syntax) (source : List ℕ) (ts us : List Spanned) → IsUsable x → HasSpans x source ts → HasSpans x source us → ts ≡ us
one_spans x source ts us usable (source_spans {pieces = ps} has e) (source_spans {pieces = qs} has' e') =
    let s = template_text x source in
    let same = one_list one_token usable has has' in
    e ∙ (ap (λ pieces. spans_in s (placed_of x s (stripped x s Nothing pieces))) same ∙ sym e')

pub words_are : (x : Syntax) (source : List ℕ) (ts : List Spanned) → HasSpans x source ts → IsTokens x source (words_in ts)
words_are x source ts (source_spans {pieces = pieces} has e) =
    let s = template_text x source in
    source_tokens has (ap words_in e ∙ (words_spans s (placed_of x s (stripped x s Nothing pieces)) ∙ same_words x s Nothing has))
