-- How a source is parted into data and segments: the next segment begins at the leftmost start marker, there at the longest.
use Rattle.std.specs.Prelude.{◌≡◌, ℕ, suc, ◌+◌, ◌-◌, ◌<◌, ◌≤◌, Bool, true, false, nat_lt, if◌then◌else◌, IsTrue, List, [], ◌∷◌, length, slice_index, codes, Option, None, Some}
use Rattle.std.specs.Char.{is_ascii_whitespace}
use Rattle.template_compiler_syntax.specs.declared.StartMarker.{StartMarker}
use Rattle.template_compiler_syntax.specs.declared.StartMarker.TheVariants.{Variable, Block, Comment, LineStatement, LineComment}
use Rattle.template_compiler_syntax.specs.Syntax.{Syntax, IsSet, start_text}
use Rattle.template_compiler_tokens.specs.Token.{Token, TokenFault, bad_syntax, variable_start, block_start, identifier, symbol, bad, bracket_open, bracket_close, paren_open, paren_close, brace_open, brace_close}
use Rattle.template_compiler_tokens.specs.Lexical.{IsToken}
use Rattle.template_compiler_syntax.specs.Places.{StandsAt, IsFirst, IsNowhere, is_first_on_line, newline_len, IsLineEnd, sign_at, sign_width}
use Rattle.template_compiler_syntax.specs.declared.edges.Trim.{Trim}
use Rattle.template_compiler_syntax.specs.declared.edges.Trim.TheVariants.{Plain}

-- a line statement begins where only blanks stand before it on its line; all others begin anywhere
abbrev pub IsEligible : StartMarker → List ℕ → ℕ → Type 0
IsEligible LineStatement s i = IsTrue (is_first_on_line s i)
IsEligible Variable s i = Unit {0}
IsEligible Block s i = Unit {0}
IsEligible Comment s i = Unit {0}
IsEligible LineComment s i = Unit {0}

-- a start marker of the kind stands at the place; an empty prefix is none
pub record HasStart (x : Syntax) (s : List ℕ) (i : ℕ) (k : StartMarker) : Type 0 where
  pub is_set : IsSet (start_text x k)
  pub stands : StandsAt s i (start_text x k)
  pub eligible : IsEligible k s i

-- it is the leftmost from `from` on, and the longest of those that stand there
pub record IsNextStart (x : Syntax) (s : List ℕ) (from i : ℕ) (k : StartMarker) : Type 0 where
  pub ahead : from ≤ i
  pub here : HasStart x s i k
  pub longest : (l : StartMarker) → HasStart x s i l → length (start_text x l) ≤ length (start_text x k)
  pub leftmost : (j : ℕ) → from ≤ j → j < i → (l : StartMarker) → HasStart x s j l → ⊥

abbrev pub HasNoStart : Syntax → List ℕ → ℕ → Type 0
HasNoStart x s from = (i : ℕ) → from ≤ i → (k : StartMarker) → HasStart x s i k → ⊥

-- a sign directly behind the start of a print, a block or a comment belongs to it
abbrev pub start_sign : Syntax → List ℕ → StartMarker → ℕ → Trim
start_sign x s LineStatement i = Plain
start_sign x s LineComment i = Plain
start_sign x s k i = sign_at s (i + length (start_text x k))

-- where what is inside the segment begins
abbrev pub inside_from : Syntax → List ℕ → StartMarker → ℕ → ℕ
inside_from x s k i = i + length (start_text x k) + sign_width (start_sign x s k i)

-- an end delimiter, perhaps with a sign directly before it, stands at the place, and ends at `next`
pub data IsEnd (s end : List ℕ) : ℕ → Trim → ℕ → Type 0 where
  bare_end : {i next : ℕ} → StandsAt s i end → next ≡ i + length end → IsEnd s end i Plain next
  signed_end : {i next : ℕ} {last : Trim} → (StandsAt s i end → ⊥) → StandsAt s (i + 1) end →
      last ≡ sign_at s i → (last ≡ Plain → ⊥) → next ≡ i + 1 + length end → IsEnd s end i last next

-- the segment ends at a token's place, and `next` is behind its end: a print and a block at their delimiter,
-- a line statement with its line
pub data EndsAt (x : Syntax) (s : List ℕ) : StartMarker → ℕ → Trim → ℕ → Type 0 where
  print_end : {i next : ℕ} {last : Trim} → is_ascii_whitespace (slice_index s i) ≡ false →
      IsEnd s (x.variable_end) i last next → EndsAt x s Variable i last next
  block_end : {i next : ℕ} {last : Trim} → is_ascii_whitespace (slice_index s i) ≡ false →
      IsEnd s (x.block_end) i last next → EndsAt x s Block i last next
  line_end : {i next : ℕ} → IsLineEnd s i → next ≡ i + newline_len s i → EndsAt x s LineStatement i Plain next

abbrev pub IsOver : Syntax → List ℕ → StartMarker → ℕ → Type 0
IsOver x s k i = (last : Trim) × (next : ℕ) × EndsAt x s k i last next

-- how many brackets are open behind a token
abbrev pub open_brackets : Token → ℕ → ℕ
open_brackets (symbol bracket_open) d = suc d
open_brackets (symbol paren_open) d = suc d
open_brackets (symbol brace_open) d = suc d
open_brackets (symbol bracket_close) d = d - 1
open_brackets (symbol paren_close) d = d - 1
open_brackets (symbol brace_close) d = d - 1
open_brackets _ d = d

abbrev pub is_bad : Token → Bool
is_bad (bad fault) = true
is_bad _ = false

-- how a segment ends: with this sign, and what follows stands there; or never
abbrev pub Ending : Type 0
Ending = Option (Trim × ℕ)

-- what stands in a segment from a place on, where so many brackets are open: its tokens, parted by white space,
-- up to its end where none is open. Where no token stands it never ends, and the last of the tokens says why
pub data HasInside (x : Syntax) (s : List ℕ) (k : StartMarker) : ℕ → ℕ → List Token → Ending → Type 0 where
  ended : {i next : ℕ} {last : Trim} → EndsAt x s k i last next → HasInside x s k 0 i [] (Some (last, next))
  blank : {d i : ℕ} {tokens : List Token} {ending : Ending} → (d ≡ 0 → IsOver x s k i → ⊥) →
      is_ascii_whitespace (slice_index s i) ≡ true →
      HasInside x s k d (suc i) tokens ending → HasInside x s k d i tokens ending
  token : {d i n : ℕ} {t : Token} {tokens : List Token} {ending : Ending} → (d ≡ 0 → IsOver x s k i → ⊥) →
      is_ascii_whitespace (slice_index s i) ≡ false → IsToken s i t n → is_bad t ≡ false →
      HasInside x s k (open_brackets t d) n tokens ending → HasInside x s k d i (t ∷ tokens) ending
  no_token : {d i n : ℕ} {fault : TokenFault} → (d ≡ 0 → IsOver x s k i → ⊥) →
      is_ascii_whitespace (slice_index s i) ≡ false → IsToken s i (bad fault) n →
      HasInside x s k d i (bad fault ∷ []) None

-- what the segment of the kind that begins at the place has inside
abbrev pub HoldsInside : Syntax → List ℕ → StartMarker → ℕ → List Token → Ending → Type 0
HoldsInside x s k i tokens ending = HasInside x s k 0 (inside_from x s k i) tokens ending

-- the segment's only word
abbrev pub only : List ℕ → List Token
only word = identifier word ∷ []

-- a block whose only word is `endraw` begins at the place, whatever other start marker stands there
abbrev pub IsRawEnd : Syntax → List ℕ → ℕ → Type 0
IsRawEnd x s i = StandsAt s i (x.block_start) ×
    ((last : Trim) × (next : ℕ) × HoldsInside x s Block i (only (codes "endraw")) (Some (last, next)))

-- a sign directly before a comment's end is its sign, unless it is the start's own
abbrev pub comment_sign : List ℕ → ℕ → ℕ → Trim
comment_sign s from end = if nat_lt from end then sign_at s (end - 1) else Plain

abbrev pub IsCommentEnd : Syntax → List ℕ → ℕ → Type 0
IsCommentEnd x s i = StandsAt s i (x.comment_end)

-- data, or a segment, by its places: where it begins, and where the next piece does.
-- A raw block is one piece, with its data's places; of what never ends, the tokens stay
pub data Piece : Type 0 where
  data_piece : (from to : ℕ) → Piece
  segment : StartMarker → (begin : ℕ) → List Token → (last : Trim) → (next : ℕ) → Piece
  raw_piece : (begin : ℕ) → (inner : Trim) → (from to : ℕ) → (last : Trim) → (next : ℕ) → Piece
  endless_piece : StartMarker → (begin : ℕ) → List Token → Piece

-- a segment of the kind begins at the place: which piece it is, and where the next one begins
pub data IsSegment (x : Syntax) (s : List ℕ) (i : ℕ) : StartMarker → Piece → ℕ → Type 0 where
  print_segment : {tokens : List Token} {last : Trim} {next : ℕ} →
      HoldsInside x s Variable i tokens (Some (last, next)) → IsSegment x s i Variable (segment Variable i tokens last next) next
  block_segment : {tokens : List Token} {last : Trim} {next : ℕ} →
      HoldsInside x s Block i tokens (Some (last, next)) → (tokens ≡ only (codes "raw") → ⊥) →
      IsSegment x s i Block (segment Block i tokens last next) next
  raw_segment : {inner last : Trim} {from to next : ℕ} →
      HoldsInside x s Block i (only (codes "raw")) (Some (inner, from)) → IsFirst (IsRawEnd x s) from to →
      HoldsInside x s Block to (only (codes "endraw")) (Some (last, next)) →
      IsSegment x s i Block (raw_piece i inner from to last next) next
  comment_segment : {end next : ℕ} {last : Trim} → IsFirst (IsCommentEnd x s) (inside_from x s Comment i) end →
      last ≡ comment_sign s (inside_from x s Comment i) end → next ≡ end + length (x.comment_end) →
      IsSegment x s i Comment (segment Comment i [] last next) next
  line_statement_segment : {tokens : List Token} {last : Trim} {next : ℕ} →
      HoldsInside x s LineStatement i tokens (Some (last, next)) →
      IsSegment x s i LineStatement (segment LineStatement i tokens last next) next
  line_comment_segment : {end next : ℕ} → IsFirst (IsLineEnd s) (inside_from x s LineComment i) end →
      next ≡ (if is_first_on_line s i then end + newline_len s end else end) →
      IsSegment x s i LineComment (segment LineComment i [] Plain next) next

-- what begins at the place never ends: its tokens, the last of which says why
pub data IsEndless (x : Syntax) (s : List ℕ) (i : ℕ) : StartMarker → List Token → Type 0 where
  endless_print : {tokens : List Token} →
      HoldsInside x s Variable i tokens None → IsEndless x s i Variable (variable_start ∷ tokens)
  endless_block : {tokens : List Token} →
      HoldsInside x s Block i tokens None → IsEndless x s i Block (block_start ∷ tokens)
  endless_line_statement : {tokens : List Token} →
      HoldsInside x s LineStatement i tokens None → IsEndless x s i LineStatement (block_start ∷ tokens)
  endless_raw : {inner : Trim} {from : ℕ} → HoldsInside x s Block i (only (codes "raw")) (Some (inner, from)) →
      IsNowhere (IsRawEnd x s) from → IsEndless x s i Block (bad bad_syntax ∷ [])
  endless_comment : IsNowhere (IsCommentEnd x s) (inside_from x s Comment i) →
      IsEndless x s i Comment (bad bad_syntax ∷ [])

-- the pieces of a source from a place on, in turn data and a segment, as they stand
pub data HasPieces (x : Syntax) (s : List ℕ) : ℕ → List Piece → Type 0 where
  no_start : {from : ℕ} → HasNoStart x s from → HasPieces x s from (data_piece from (length s) ∷ [])
  next_start : {from i next : ℕ} {k : StartMarker} {piece : Piece} {pieces : List Piece} →
      IsNextStart x s from i k → IsSegment x s i k piece next → HasPieces x s next pieces →
      HasPieces x s from (data_piece from i ∷ piece ∷ pieces)
  endless_start : {from i : ℕ} {k : StartMarker} {tokens : List Token} →
      IsNextStart x s from i k → IsEndless x s i k tokens →
      HasPieces x s from (data_piece from i ∷ endless_piece k i tokens ∷ [])
