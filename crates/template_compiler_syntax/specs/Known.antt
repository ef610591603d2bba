-- What a search keeps of the start markers ahead.
use Rattle.std.specs.Prelude.{◌≡◌, ℕ, ◌≤◌, ◌<◌, ◌+◌, ◌⊎◌, Option, None, Some, List, [], ◌∷◌, length, slice_index}
use Rattle.std.specs.Bool.{OnTrue}
use Rattle.template_compiler_syntax.specs.declared.StartMarker.{StartMarker}
use Rattle.template_compiler_syntax.specs.declared.StartMarker.TheVariants.{Variable, Block, Comment, LineStatement, LineComment}
use Rattle.template_compiler_syntax.specs.Syntax.{Syntax, start_text, HasDefaultStarts}
use Rattle.template_compiler_syntax.specs.Places.{IsFirst, IsNowhere}
use Rattle.template_compiler_syntax.specs.Segments.{HasStart, HasNoStart, IsNextStart, start_sign, inside_from}
use Rattle.template_compiler_syntax.specs.declared.starts.Known.{Known}
use Rattle.template_compiler_syntax.specs.declared.starts.Known.TheVariants.{Unsearched, At, Nowhere}
use Rattle.template_compiler_syntax.specs.declared.starts.Start.{Start}
use Rattle.template_compiler_syntax.specs.declared.starts.StartFinder.{StartFinder}

-- what is known of the start markers of a kind from a place on: nothing, none before this one, or that there is none
abbrev pub IsKnown : Syntax → List ℕ → ℕ → StartMarker → Known → Type 0
IsKnown x s from k Unsearched = Unit {0}
IsKnown x s from k (At i) = HasStart x s i k × ((j : ℕ) → from ≤ j → j < i → HasStart x s j k → ⊥)
IsKnown x s from k Nowhere = IsNowhere (λ i. HasStart x s i k) from

-- what a finder keeps is so, for searches from the place on
pub record Knows (x : Syntax) (s : List ℕ) (from : ℕ) (finder : StartFinder) : Type 0 where
  pub default_starts : OnTrue (finder.has_default_starts) (HasDefaultStarts x)
  pub variable : IsKnown x s from Variable (finder.variable)
  pub block : IsKnown x s from Block (finder.block)
  pub comment : IsKnown x s from Comment (finder.comment)
  pub line_statement : IsKnown x s from LineStatement (finder.line_statement)
  pub line_comment : IsKnown x s from LineComment (finder.line_comment)

-- it is known where the first start marker of the kind stands from the place on, or that there is none
abbrev pub IsSought : Syntax → List ℕ → ℕ → StartMarker → Known → Type 0
IsSought x s from k Unsearched = ⊥
IsSought x s from k (At i) = IsFirst (λ j. HasStart x s j k) from i
IsSought x s from k Nowhere = IsNowhere (λ i. HasStart x s i k) from

-- no start marker of the kind stands before the place, and none there that is longer than the one of the kind `m`
pub record IsBehind (x : Syntax) (s : List ℕ) (from i : ℕ) (m k : StartMarker) : Type 0 where
  pub before : (j : ℕ) → from ≤ j → j < i → HasStart x s j k → ⊥
  pub shorter : HasStart x s i k → length (start_text x k) ≤ length (start_text x m)

abbrev pub EachOf : List StartMarker → (StartMarker → Type 0) → Type 0
EachOf [] P = Unit {0}
EachOf (k ∷ ks) P = P k × EachOf ks P

-- the next start marker of those of some kinds, or that there is none
abbrev pub IsNearest : Syntax → List ℕ → ℕ → List StartMarker → Option (ℕ × StartMarker) → Type 0
IsNearest x s from ks None = EachOf ks (λ k. IsNowhere (λ i. HasStart x s i k) from)
IsNearest x s from ks (Some p) = (from ≤ p.0) × HasStart x s (p.0) (p.1) × EachOf ks (λ k. IsBehind x s from (p.0) (p.1) k)

-- the next start marker, or that there is none
abbrev pub IsNextOrNone : Syntax → List ℕ → ℕ → Option (ℕ × StartMarker) → Type 0
IsNextOrNone x s from None = HasNoStart x s from
IsNextOrNone x s from (Some p) = IsNextStart x s from (p.0) (p.1)

-- the same, with its sign and where the inside of its segment begins
abbrev pub FindsStart : Syntax → List ℕ → ℕ → Option Start → Type 0
FindsStart x s from None = HasNoStart x s from
FindsStart x s from (Some start) = IsNextStart x s from start.place start.kind ×
    (start.sign ≡ start_sign x s start.kind start.place) × (start.inside ≡ inside_from x s start.kind start.place)

-- a start marker is left of another, or stands there too and is no shorter
abbrev pub StaysNearest : Syntax → ℕ → StartMarker → ℕ → StartMarker → Type 0
StaysNearest x i m j k = (i < j) ⊎ ((i ≡ j) × (length (start_text x k) ≤ length (start_text x m)))

-- the nearest of some kinds, and what is known of another, give the nearest of them all
abbrev pub IsNearer : Syntax → Option (ℕ × StartMarker) → Known → StartMarker → Option (ℕ × StartMarker) → Type 0
IsNearer x nearest known k result =
    (s : List ℕ) (from : ℕ) (ks : List StartMarker) → IsNearest x s from ks nearest → IsSought x s from k known →
    IsNearest x s from (k ∷ ks) result

-- a start marker of the default syntax stands at the place: `{{`, `{%` or `{#`
abbrev pub IsBraces : List ℕ → ℕ → Type 0
IsBraces s i = (slice_index s i ≡ 123) ×
    ((slice_index s (i + 1) ≡ 123) ⊎ ((slice_index s (i + 1) ≡ 37) ⊎ (slice_index s (i + 1) ≡ 35)))

-- which of them it is
abbrev pub IsBracesOf : List ℕ → ℕ → StartMarker → Type 0
IsBracesOf s i Variable = slice_index s (i + 1) ≡ 123
IsBracesOf s i Block = slice_index s (i + 1) ≡ 37
IsBracesOf s i Comment = (slice_index s (i + 1) ≡ 123 → ⊥) × (slice_index s (i + 1) ≡ 37 → ⊥)
IsBracesOf s i LineStatement = ⊥
IsBracesOf s i LineComment = ⊥
