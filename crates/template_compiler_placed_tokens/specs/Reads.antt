-- What a tokenizer reads.
use Rattle.std.specs.Prelude.{◌≡◌, ℕ, ◌≤◌, ◌⊎◌, List, [], ◌∷◌, Result, Ok, Err}
use Rattle.std.specs.Str.{IsCharBoundary}
use Rattle.template_values_errors.specs.declared.ErrorKind.{ErrorKind}
use Rattle.template_values_errors.specs.declared.ErrorKind.TheVariants.{OutOfMemory}
use Rattle.template_compiler_syntax.specs.declared.StartMarker.{StartMarker}
use Rattle.template_compiler_syntax.specs.Syntax.{Syntax}
use Rattle.template_compiler_syntax.specs.Segments.{IsNextStart}
use Rattle.template_compiler_tokens.specs.Token.{TokenFault, bad}
use Rattle.template_compiler_tokens.specs.Left.{kind_of}
use Rattle.template_compiler_tokens.specs.View.{token_of}
use Rattle.template_compiler_placed_tokens.specs.Left.{Placed, placed, inside_tokens, left_at}
use Rattle.template_compiler_placed_tokens.specs.declared.inside.Piece.{Piece}
use Rattle.template_compiler_placed_tokens.specs.declared.stage.Stage.{Stage}
use Rattle.template_compiler_placed_tokens.specs.declared.stage.Stage.TheVariants as stage

-- want of memory; or no token stands next, and the kind says why
abbrev pub IsRefusedKind : List Placed → ErrorKind → Type 0
IsRefusedKind left kind =
    (kind ≡ OutOfMemory) ⊎
    ((fault : TokenFault) × (begin : ℕ) × (end : ℕ) × (left ≡ placed (bad fault) begin end ∷ []) × (kind ≡ kind_of fault))

-- a stage can be gone on from at the place: it stands between characters, a start marker that it tells stands there, and
-- no more brackets are open than bytes were read
abbrev pub IsStage : Syntax → List ℕ → Stage → ℕ → Type 0
IsStage x s (stage.Data left) i = IsCharBoundary s i
IsStage x s (stage.Start k) i = IsCharBoundary s i × IsNextStart x s i i k
IsStage x s (stage.Inside k d) i = IsCharBoundary s i × (d ≤ i)

-- the text of what was read from a place on stands between characters, and before what follows
pub record IsCut (s : List ℕ) (from : ℕ) (piece : Piece) : Type 0 where
  pub low : from ≤ piece.begin
  pub ordered : piece.begin ≤ piece.end
  pub high : piece.end ≤ piece.next
  pub begin : IsCharBoundary s (piece.begin)
  pub end : IsCharBoundary s (piece.end)
  pub next : IsCharBoundary s (piece.next)

-- the first of the tokens that are left, where it stands, and where those behind it begin
pub record ReadsPiece (x : Syntax) (s : List ℕ) (from : ℕ) (left : List Placed) (piece : Piece) : Type 0 where
  pub first : left ≡ placed (token_of piece.token) (piece.begin) (piece.end) ∷ left_at x s piece.stage piece.next
  pub stage : IsStage x s piece.stage piece.next
  pub cut : IsCut s from piece

abbrev pub Reads : Syntax → List ℕ → ℕ → List Placed → Result Piece ErrorKind → Type 0
Reads x s from left (Ok piece) = ReadsPiece x s from left piece
Reads x s from left (Err kind) = IsRefusedKind left kind

abbrev pub ReadsInside : Syntax → List ℕ → StartMarker → ℕ → ℕ → Result Piece ErrorKind → Type 0
ReadsInside x s k d from result = Reads x s from (inside_tokens x s k d from) result
