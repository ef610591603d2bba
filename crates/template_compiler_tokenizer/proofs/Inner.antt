-- What a reader inside a segment leaves.
use Rattle.std.proofs.Common.{◌≡◌, ℕ, ◌+◌, ◌<◌, inl, inr, List, ◌∷◌, length, drop, Result, Ok, Err, refl, sym, ◌∙◌, ap, subst, arith}
use Rattle.template_values_errors.specs.declared.ErrorKind.{ErrorKind}
use Rattle.template_values_errors.specs.declared.ErrorKind.TheVariants.{OutOfMemory}
use Rattle.std.specs.Prelude.{◌⊎◌}
use Rattle.template_compiler_tree.specs.declared.span.Span.{Span}
use Rattle.template_compiler_syntax.specs.declared.StartMarker.{StartMarker}
use Rattle.template_compiler_syntax.specs.Syntax.{Syntax}
use Rattle.template_compiler_tokens.specs.View.{token_of}
use Rattle.template_compiler_tokens.specs.declared.token.Token.{Token}
use Rattle.template_compiler_scanner.specs.Scans.{Scans}
use Rattle.template_compiler_syntax.specs.declared.edges.Trim.{Trim}
use Rattle.template_compiler_syntax.specs.declared.edges.Edge.TheVariants.{Beside}
use Rattle.template_compiler_placed_tokens.specs.Finds.{FindsPlace}
use Rattle.template_compiler_tokenizer.specs.Held.{StandsIn, left_of, HoldsRead, HoldsRefused, IsFurther}
use Rattle.template_compiler_tokenizer.specs.Held.{spanned_of}
use Rattle.template_compiler_tokenizer.specs.Spans.{spanned}
use Rattle.template_compiler_tokens.specs.SourcePlaces.{span_between}
use Rattle.template_compiler_tokens.specs.Stretches.{BeginsBy}
use Rattle.std.specs.Prelude.{◌≤◌, [], ◌++◌, take}
use Rattle.template_compiler_tokens.specs.declared.token.Token.TheVariants.{VariableEnd, BlockEnd}
use Rattle.template_compiler_syntax.specs.declared.StartMarker.TheVariants as marker
use Rattle.template_compiler_tokenizer.specs.Inner.{standing_in, standing_behind, IsPut, IsRead, Puts, ReadsToken}
use Rattle.template_compiler_placed_tokens.specs.Left.{placed, end_token, data_tokens, inside_tokens}
use Rattle.template_compiler_placed_tokens.specs.Reads.{ReadsPiece}
use Rattle.template_compiler_tokenizer.specs.declared.all.Standing.{Standing}
use Rattle.template_compiler_placed_tokens.specs.declared.inside.Found.TheVariants.{End, Token as Other}
use Rattle.template_compiler_placed_tokens.specs.declared.inside.Piece.{Piece}
use Rattle.template_compiler_tokenizer.specs.declared.segment.Inner.{Inner}
use Rattle.template_compiler_placed_tokens.specs.declared.stage.Stage.TheVariants as stage
use Rattle.template_compiler_tokenizer.proofs.Held.{fewer_left, stands_next, holds_next, further_next}
use Rattle.template_compiler_placed_tokens.proofs.Scanned.{scanned, not_scanned, open_le}

pub read_from_put : {A : Type 0} (s : List ℕ) (place : ℕ) (t : Token) (width : ℕ) (first at : Inner) (old held : List (Token × Span)) (r : Result A ErrorKind) →
    IsRead s place t width → Puts s place t width first at old held r → ReadsToken s place first at old held r
read_from_put s place t width first at old held (Ok done) read put = (t, width, read, put)
read_from_put s place t width first at old held (Err kind) read put = (put.0, inl (put.1))

-- the segment's end, as a piece
abbrev pub end_piece : Token → StartMarker → Trim → ℕ → ℕ → Piece
end_piece t k last place next = record { token = t; stage = stage.Data (Beside k last); begin = place; end = next; next = next }

pub reads_end : (x : Syntax) (s : List ℕ) (k : StartMarker) (d from place next : ℕ) (last : Trim) (t : Token) → token_of t ≡ end_token k →
    FindsPlace x s k d from (End place last next) → ReadsPiece x s from (inside_tokens x s k d from) (end_piece t k last place next)
reads_end x s k d from place next last t e found =
    let end = found.2 in
    let low = end.low in
    let high = end.high in
    record {
      first = end.tokens ∙ ap (λ u. placed u place next ∷ data_tokens x s (Beside k last) next) (sym e);
      stage = found.1;
      cut = record {
        low = low;
        ordered = high;
        high = omega arith;
        begin = end.cut;
        end = found.1;
        next = found.1;
      };
    }

-- the token of the segment's end
token_of_end : (k : StartMarker) → (t : Token) × (token_of t ≡ end_token k)
token_of_end marker.Variable = (VariableEnd, refl)
token_of_end marker.Block = (BlockEnd, refl)
token_of_end marker.Comment = (BlockEnd, refl)
token_of_end marker.LineStatement = (BlockEnd, refl)
token_of_end marker.LineComment = (BlockEnd, refl)

-- where its end found no room
pub refused_end : (x : Syntax) (s : List ℕ) (k : StartMarker) (first : Inner) (old mid held : List (Token × Span)) (f : Standing) →
    HoldsRead s old (left_of x s f) mid (left_of x s (standing_in k first)) → (kind : ErrorKind) → (held ≡ mid) × (kind ≡ OutOfMemory) →
    HoldsRefused s old (left_of x s f) held kind
refused_end x s k first old mid held f before kind h = (
  left_of x s (standing_in k first),
  subst (λ g. HoldsRead s old (left_of x s f) g (left_of x s (standing_in k first))) (sym (h.0)) before,
  inl (h.1),
)

-- behind the segment's end
pub ends_behind : (x : Syntax) (s : List ℕ) (k : StartMarker) (first : Inner) (place next : ℕ) (last : Trim) → StandsIn x s (standing_in k first) →
    FindsPlace x s k first.depth first.from (End place last next) → (old mid held : List (Token × Span)) (f : Standing) →
    HoldsRead s old (left_of x s f) mid (left_of x s (standing_in k first)) → IsFurther x s f (standing_in k first) → (at : Inner) →
    (spanned_of held ≡ spanned_of mid ++ spanned (end_token k) (span_between (take place s) (take next s)) ∷ []) × (at.from ≡ next) ×
    BeginsBy s next at.stretch →
    HoldsRead s old (left_of x s f) held (left_of x s (standing_behind k last at)) × StandsIn x s (standing_behind k last at) ×
    (f.from ≤ at.from) × (length (left_of x s (standing_behind k last at)) < length (left_of x s f))
ends_behind x s k first place next last stands found old mid held f before further at put =
    let t = token_of_end k in
    let piece = end_piece t.0 k last place next in
    let read = reads_end x s k first.depth first.from place next last t.0 t.1 found in
    let behind = standing_behind k last at in
    let fewer = fewer_left x s (standing_in k first) behind piece refl put.1 read in
    let most = further.1 in (
      holds_next x s (standing_in k first) behind piece refl put.1 old mid held (left_of x s f) read before
          (put.0 ∙ ap (λ u. spanned_of mid ++ spanned u (span_between (take place s) (take next s)) ∷ []) (sym t.1)),
      stands_next x s (standing_in k first) behind piece refl put.1 read put.2,
      (further_next x s (standing_in k first) behind piece refl put.1 f read further).0,
      omega arith,
    )

module _ (x : Syntax) (s : List ℕ) (k : StartMarker) (first : Inner) (place : ℕ) (stands : StandsIn x s (standing_in k first))
    (found : FindsPlace x s k first.depth first.from (Other place)) (old mid held : List (Token × Span)) (f : Standing)
    (before : HoldsRead s old (left_of x s f) mid (left_of x s (standing_in k first))) where
  pub refused_there : (kind : ErrorKind) → (held ≡ mid) × ((kind ≡ OutOfMemory) ⊎ Scans (drop place s) (Err kind)) →
      HoldsRefused s old (left_of x s f) held kind
  refused_there kind h = (
    left_of x s (standing_in k first),
    subst (λ g. HoldsRead s old (left_of x s f) g (left_of x s (standing_in k first))) (sym (h.0)) before,
    elim (h.1) [
      | inl memory ↦ inl memory
      | inr scans ↦ not_scanned x s (drop place s) k first.depth place first.from kind refl found.2 found.4 scans
    ],
  )

  module _ (at : Inner) (t : Token) (width : ℕ) (read : IsRead s place t width) (put : IsPut s place t width first at mid held)
      (further : IsFurther x s f (standing_in k first)) where
    abbrev piece : Piece
    piece = record { token = t; stage = stage.Inside k at.depth; begin = place; end = place + width; next = place + width }

    reads : ReadsPiece x s first.from (left_of x s (standing_in k first)) piece
    reads =
        let low = found.0 in
        let depth = put.depth in
        let most = open_le (token_of t) first.depth in
        let some = read.some in
        let start = stands.0.1 in
        record {
          first = scanned x s (drop place s) k first.depth place first.from at.depth width t refl found.2 found.4 read.scans depth;
          stage = (read.cut, omega arith);
          cut = record { low = low; ordered = omega arith; high = omega arith; begin = found.1; end = read.cut; next = read.cut };
        }

    pub stands_behind : StandsIn x s (standing_in k at)
    stands_behind = stands_next x s (standing_in k first) (standing_in k at) piece refl put.from reads put.begins

    pub holds_behind : HoldsRead s old (left_of x s f) held (left_of x s (standing_in k at))
    holds_behind = holds_next x s (standing_in k first) (standing_in k at) piece refl put.from old mid held (left_of x s f) reads before put.held

    pub further_behind : IsFurther x s f (standing_in k at)
    further_behind = further_next x s (standing_in k first) (standing_in k at) piece refl put.from f reads further

    pub fewer_behind : length (left_of x s (standing_in k at)) < length (left_of x s (standing_in k first))
    fewer_behind = fewer_left x s (standing_in k first) (standing_in k at) piece refl put.from reads
