-- What a reader reaches from a place in data on.
use Rattle.std.specs.Prelude.{◌≡◌, ℕ, ◌≤◌, ◌<◌, List, [], ◌∷◌, length, Result, Ok, Err}
use Rattle.std.specs.Char.{is_ascii_whitespace}
use Rattle.std.specs.Prelude.{false, slice_index}
use Rattle.std.specs.Str.{IsCharBoundary}
use Rattle.template_values_errors.specs.declared.ErrorKind.{ErrorKind}
use Rattle.template_values_errors.specs.declared.ErrorKind.TheVariants.{OutOfMemory}
use Rattle.template_compiler_tree.specs.declared.span.Span.{Span}
use Rattle.template_compiler_tokens.specs.Stretches.{BeginsBy}
use Rattle.template_compiler_tokens.specs.declared.stretch.Stretch.{Stretch}
use Rattle.template_compiler_syntax.specs.Syntax.{Syntax}
use Rattle.template_compiler_syntax.specs.declared.StartMarker.TheVariants.{Block}
use Rattle.template_compiler_tokens.specs.Token as spec
use Rattle.template_compiler_tokens.specs.declared.token.Token.{Token}
use Rattle.template_compiler_syntax.specs.declared.edges.Edge.TheVariants.{Nothing, Beside}
use Rattle.template_compiler_syntax.specs.Segments.{IsNextStart, Ending, HasInside, HoldsInside, only}
use Rattle.template_compiler_placed_tokens.specs.Left.{Placed, placed, data_tokens, inside_tokens}
use Rattle.template_compiler_tokenizer.specs.Held.{HoldsRead, HoldsRefused}
use Rattle.std.specs.Prelude.{Some, codes}
use Rattle.template_compiler_syntax.specs.declared.edges.Trim.{Trim}
use Rattle.template_compiler_tokenizer.specs.declared.reach.Raw.{Raw}
use Rattle.template_compiler_tokenizer.specs.declared.reach.Raw.TheVariants as raw
use Rattle.template_compiler_tokenizer.specs.declared.reach.Reached.{Reached}
use Rattle.template_compiler_tokenizer.specs.declared.reach.Reached.TheVariants.{Inside, Data, Start, End, Refused}

-- a token between two places was put behind the ones that were held; or memory was wanting
abbrev pub HoldsNext : {A : Type 0} → List ℕ → List (Token × Span) → spec.Token → ℕ → ℕ → List (Token × Span) → Result A ErrorKind → Type 0
HoldsNext s old t begin end held (Ok done) = (rest : List Placed) → HoldsRead s old (placed t begin end ∷ rest) held rest
HoldsNext s old t begin end held (Err kind) = (held ≡ old) × (kind ≡ OutOfMemory)

-- of the tokens that are left, those before the rest were put behind the ones that were held, and the rest begins at the place
pub record GoesOn (s : List ℕ) (old : List (Token × Span)) (left : List Placed) (held : List (Token × Span)) (rest : List Placed) (next : ℕ)
    (stretch : Stretch) : Type 0 where
  pub reads : HoldsRead s old left held rest
  pub fewer : length rest ≤ length left
  pub begins : BeginsBy s next stretch

-- so; or memory was wanting
abbrev pub HoldsUpTo : {A : Type 0} → List ℕ → List (Token × Span) → List Placed → List (Token × Span) → List Placed → ℕ → Stretch →
    Result A ErrorKind → Type 0
HoldsUpTo s old left held rest next stretch (Ok done) = GoesOn s old left held rest next stretch
HoldsUpTo s old left held rest next stretch (Err kind) = HoldsRefused s old left held kind

-- what was reached, and where it stands
abbrev pub Reaches : Syntax → List ℕ → List (Token × Span) → ℕ → List Placed → List (Token × Span) → ℕ → Stretch → Reached → Type 0
Reaches x s old from left held next stretch (Inside k) =
    GoesOn s old left held (inside_tokens x s k 0 next) next stretch × IsCharBoundary s next × (from < next)
Reaches x s old from left held next stretch (Data k sign) =
    GoesOn s old left held (data_tokens x s (Beside k sign) next) next stretch × IsCharBoundary s next × (from < next)
Reaches x s old from left held next stretch (Start k) =
    GoesOn s old left held (data_tokens x s Nothing next) next stretch × IsCharBoundary s next × (from ≤ next) × IsNextStart x s next next k
Reaches x s old from left held next stretch End = HoldsRead s old left held []
Reaches x s old from left held next stretch (Refused kind) = HoldsRefused s old left held kind

-- the white space at a place in a block ends there
abbrev pub FindsBlack : Syntax → List ℕ → ℕ → ℕ → Type 0
FindsBlack x s from i = (from ≤ i) × IsCharBoundary s i × (is_ascii_whitespace (slice_index s i) ≡ false) ×
    ((tokens : List spec.Token) (ending : Ending) → HasInside x s Block 0 i tokens ending → HasInside x s Block 0 from tokens ending) ×
    (inside_tokens x s Block 0 from ≡ inside_tokens x s Block 0 i)

-- what a block is that begins at the place: raw data, which was read; or another one
abbrev pub ReadsRaw : Syntax → List ℕ → List (Token × Span) → ℕ → List (Token × Span) → ℕ → Stretch → Raw → Type 0
ReadsRaw x s old i held next stretch (raw.Data last) =
    GoesOn s old (data_tokens x s Nothing i) held (data_tokens x s (Beside Block last) next) next stretch × IsCharBoundary s next × (i < next)
ReadsRaw x s old i held next stretch (raw.Refused kind) = HoldsRefused s old (data_tokens x s Nothing i) held kind
ReadsRaw x s old i held next stretch raw.Other =
    (held ≡ old) × ((last : Trim) (after : ℕ) → HoldsInside x s Block i (only (codes "raw")) (Some (last, after)) → ⊥)
