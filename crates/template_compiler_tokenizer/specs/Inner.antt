-- What a reader inside a segment reads.
use Rattle.std.specs.Prelude.{◌≡◌, ℕ, ◌+◌, ◌<◌, ◌≤◌, length, ◌⊎◌, List, [], ◌∷◌, ◌++◌, take, drop, Result, Ok, Err}
use Rattle.std.specs.Str.{IsCharBoundary}
use Rattle.template_values_errors.specs.declared.ErrorKind.{ErrorKind}
use Rattle.template_values_errors.specs.declared.ErrorKind.TheVariants.{OutOfMemory}
use Rattle.template_compiler_tree.specs.declared.span.Span.{Span}
use Rattle.template_compiler_syntax.specs.declared.StartMarker.{StartMarker}
use Rattle.template_compiler_tokens.specs.SourcePlaces.{span_between}
use Rattle.template_compiler_tokens.specs.Stretches.{BeginsBy}
use Rattle.template_compiler_tokens.specs.View.{token_of}
use Rattle.template_compiler_tokens.specs.declared.token.Token.{Token}
use Rattle.template_compiler_scanner.specs.Scans.{Scans}
use Rattle.template_compiler_syntax.specs.Segments.{open_brackets}
use Rattle.template_compiler_syntax.specs.declared.edges.Trim.{Trim}
use Rattle.template_compiler_syntax.specs.declared.edges.Edge.TheVariants.{Beside}
use Rattle.template_compiler_syntax.specs.Syntax.{Syntax}
use Rattle.template_compiler_tokenizer.specs.Held.{spanned_of, left_of, HoldsRead, HoldsRefused, StandsIn}
use Rattle.template_compiler_placed_tokens.specs.Left.{end_token}
use Rattle.template_compiler_tokenizer.specs.Spans.{spanned}
use Rattle.template_compiler_tokenizer.specs.declared.all.Standing.{Standing}
use Rattle.template_compiler_tokenizer.specs.declared.segment.Inner.{Inner}
use Rattle.template_compiler_placed_tokens.specs.declared.stage.Stage.{Stage}
use Rattle.template_compiler_placed_tokens.specs.declared.stage.Stage.TheVariants as stage

-- a reader at a stage, among all readers
abbrev pub standing : Stage → Inner → Standing
standing stage at = record { stage = stage; from = at.from; stretch = at.stretch }

-- a reader inside a segment of the kind
abbrev pub standing_in : StartMarker → Inner → Standing
standing_in k at = standing (stage.Inside k at.depth) at

-- a reader behind a segment of the kind whose end has the sign
abbrev pub standing_behind : StartMarker → Trim → Inner → Standing
standing_behind k last at = standing (stage.Data (Beside k last)) at

-- the segment's end, between two places, was put behind the tokens that were held, and is passed; or memory was wanting
abbrev pub PutsEnd : {A : Type 0} → List ℕ → StartMarker → ℕ → ℕ → Inner → List (Token × Span) → List (Token × Span) → Result A ErrorKind → Type 0
PutsEnd s k place next at old held (Ok done) =
    (spanned_of held ≡ spanned_of old ++ spanned (end_token k) (span_between (take place s) (take next s)) ∷ []) ×
    (at.from ≡ next) × BeginsBy s next at.stretch
PutsEnd s k place next at old held (Err kind) = (held ≡ old) × (kind ≡ OutOfMemory)

-- the tokens of the segment that are left were put behind the ones that were held, with its end; or some of them, before one that is refused
abbrev pub ReadsSegment : Syntax → List ℕ → StartMarker → Inner → Inner → List (Token × Span) → List (Token × Span) → Result Trim ErrorKind → Type 0
ReadsSegment x s k first at old held (Ok last) =
    HoldsRead s old (left_of x s (standing_in k first)) held (left_of x s (standing_behind k last at)) ×
    StandsIn x s (standing_behind k last at) × (first.from ≤ at.from) ×
    (length (left_of x s (standing_behind k last at)) < length (left_of x s (standing_in k first)))
ReadsSegment x s k first at old held (Err kind) = HoldsRefused s old (left_of x s (standing_in k first)) held kind

-- the token at the place, so wide, was put behind the ones that were held, and is passed
pub record IsPut (s : List ℕ) (place : ℕ) (t : Token) (width : ℕ) (first at : Inner) (old more : List (Token × Span)) : Type 0 where
  pub held : spanned_of more ≡ spanned_of old ++ spanned (token_of t) (span_between (take place s) (take (place + width) s)) ∷ []
  pub depth : at.depth ≡ open_brackets (token_of t) first.depth
  pub from : at.from ≡ place + width
  pub begins : BeginsBy s (place + width) at.stretch

-- it was; or memory was wanting
abbrev pub Puts : {A : Type 0} → List ℕ → ℕ → Token → ℕ → Inner → Inner → List (Token × Span) → List (Token × Span) → Result A ErrorKind → Type 0
Puts s place t width first at old held (Ok done) = IsPut s place t width first at old held
Puts s place t width first at old held (Err kind) = (held ≡ old) × (kind ≡ OutOfMemory)

-- the token that begins at the place, and where it ends
pub record IsRead (s : List ℕ) (place : ℕ) (t : Token) (width : ℕ) : Type 0 where
  pub scans : Scans (drop place s) (Ok (t, width))
  pub cut : IsCharBoundary s (place + width)
  pub some : 0 < width

-- the token at the place was put behind the ones that were held; or memory was wanting, or none stands there
abbrev pub ReadsToken : {A : Type 0} → List ℕ → ℕ → Inner → Inner → List (Token × Span) → List (Token × Span) → Result A ErrorKind → Type 0
ReadsToken s place first at old held (Ok done) =
    (t : Token) × (width : ℕ) × IsRead s place t width × IsPut s place t width first at old held
ReadsToken s place first at old held (Err kind) = (held ≡ old) × ((kind ≡ OutOfMemory) ⊎ Scans (drop place s) (Err kind))
