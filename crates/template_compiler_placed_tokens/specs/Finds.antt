-- What a tokenizer finds inside a segment.
use Rattle.std.specs.Prelude.{codes, ◌≡◌, ℕ, ◌≤◌, true, false, List, [], ◌∷◌, slice_index, Option, None, Some}
use Rattle.std.specs.Str.{IsCharBoundary}
use Rattle.std.specs.Char.{is_ascii_whitespace}
use Rattle.template_compiler_syntax.specs.declared.StartMarker.{StartMarker}
use Rattle.template_compiler_syntax.specs.Syntax.{Syntax}
use Rattle.template_compiler_syntax.specs.declared.StartMarker.TheVariants.{Block}
use Rattle.template_compiler_tokens.specs.Token.{Token}
use Rattle.template_compiler_tokens.specs.Lexical.{is_name_start}
use Rattle.template_compiler_syntax.specs.declared.edges.Trim.{Trim}
use Rattle.template_compiler_syntax.specs.declared.edges.Trim.TheVariants.{Plain}
use Rattle.template_compiler_syntax.specs.declared.edges.Edge.TheVariants.{Beside}
use Rattle.template_compiler_syntax.specs.Segments.{IsEnd, EndsAt, IsOver, Ending, HasInside, HoldsInside, only, IsRawEnd}
use Rattle.template_compiler_syntax.specs.Places.{IsFirst, IsNowhere}
use Rattle.template_compiler_placed_tokens.specs.Left.{placed, end_token, data_tokens, inside_tokens}
use Rattle.template_compiler_placed_tokens.specs.declared.inside.Found.{Found}
use Rattle.template_compiler_placed_tokens.specs.declared.inside.Found.TheVariants.{End, Token as Other}

-- the end delimiter stands at the place, perhaps with a sign, and ends there; or it doesn't
abbrev pub FindsDelimiter : List ℕ → List ℕ → ℕ → Option (Trim × ℕ) → Type 0
FindsDelimiter s end i None = (last : Trim) (next : ℕ) → IsEnd s end i last next → ⊥
FindsDelimiter s end i (Some p) = IsEnd s end i (p.0) (p.1)

-- the same at a token's place, where no white space stands
abbrev pub FindsDelimitedEnd : List ℕ → List ℕ → ℕ → Option (Trim × ℕ) → Type 0
FindsDelimitedEnd s end i None = (last : Trim) (next : ℕ) → is_ascii_whitespace (slice_index s i) ≡ false → IsEnd s end i last next → ⊥
FindsDelimitedEnd s end i (Some p) = (is_ascii_whitespace (slice_index s i) ≡ false) × IsEnd s end i (p.0) (p.1)

-- the segment ends at the place; or it doesn't
abbrev pub FindsEnd : Syntax → List ℕ → StartMarker → ℕ → Option (Trim × ℕ) → Type 0
FindsEnd x s k i None = IsOver x s k i → ⊥
FindsEnd x s k i (Some p) = EndsAt x s k i (p.0) (p.1)

-- the same where so many brackets are open: it ends where none is
abbrev pub FindsOpenEnd : Syntax → List ℕ → StartMarker → ℕ → ℕ → Option (Trim × ℕ) → Type 0
FindsOpenEnd x s k d i None = d ≡ 0 → IsOver x s k i → ⊥
FindsOpenEnd x s k d i (Some p) = (d ≡ 0) × EndsAt x s k i (p.0) (p.1)

-- the same of ends that have no sign
abbrev pub FindsPlainEnd : Syntax → List ℕ → StartMarker → ℕ → ℕ → Option ℕ → Type 0
FindsPlainEnd x s k d i None = d ≡ 0 → IsOver x s k i → ⊥
FindsPlainEnd x s k d i (Some next) = (d ≡ 0) × EndsAt x s k i Plain next

-- at the place stands a token, or what is none
pub record IsTokenPlace (x : Syntax) (s : List ℕ) (k : StartMarker) (d i : ℕ) : Type 0 where
  pub none : d ≡ 0 → IsOver x s k i → ⊥
  pub black : is_ascii_whitespace (slice_index s i) ≡ false

-- the segment's end stands at the place, and is the next of the tokens
pub record IsNextEnd (x : Syntax) (s : List ℕ) (k : StartMarker) (d from i next : ℕ) (last : Trim) : Type 0 where
  pub low : from ≤ i
  pub high : i ≤ next
  pub cut : IsCharBoundary s i
  pub tokens : inside_tokens x s k d from ≡ placed (end_token k) i next ∷ data_tokens x s (Beside k last) next

-- behind the white space at a place the segment ends, or a token stands
abbrev pub FindsPlace : Syntax → List ℕ → StartMarker → ℕ → ℕ → Found → Type 0
FindsPlace x s k d from (End i last next) =
    HasInside x s k d from [] (Some (last, next)) × IsCharBoundary s next × IsNextEnd x s k d from i next last
FindsPlace x s k d from (Other i) = (from ≤ i) × IsCharBoundary s i × IsTokenPlace x s k d i ×
    ((tokens : List Token) (ending : Ending) → HasInside x s k d i tokens ending → HasInside x s k d from tokens ending) ×
    (inside_tokens x s k d from ≡ inside_tokens x s k d i)

-- a name begins as names do
abbrev pub IsName : List ℕ → Type 0
IsName word = is_name_start (slice_index word 0) ≡ true

-- the block has no further word, and ends so; or it has one
abbrev pub FindsEndBehind : Syntax → List ℕ → ℕ → Option (Trim × ℕ) → Type 0
FindsEndBehind x s from None = (last : Trim) (next : ℕ) → HasInside x s Block 0 from [] (Some (last, next)) → ⊥
FindsEndBehind x s from (Some p) = HasInside x s Block 0 from [] (Some (p.0, p.1))

-- this is the block's only word, and the block ends so; or it isn't
abbrev pub FindsWord : Syntax → List ℕ → ℕ → List ℕ → Option (Trim × ℕ) → Type 0
FindsWord x s from word None = (last : Trim) (next : ℕ) → HasInside x s Block 0 from (only word) (Some (last, next)) → ⊥
FindsWord x s from word (Some p) = HasInside x s Block 0 from (only word) (Some (p.0, p.1))

-- the first block from the place on that ends raw data, and how it ends; or there is none
abbrev pub FindsRawEnd : Syntax → List ℕ → ℕ → Option (ℕ × Trim × ℕ) → Type 0
FindsRawEnd x s from None = IsNowhere (IsRawEnd x s) from
FindsRawEnd x s from (Some p) = IsFirst (IsRawEnd x s) from (p.0) × HoldsInside x s Block (p.0) (only (codes "endraw")) (Some (p.1, p.2))
