-- What a tokenizer answers next.
use Rattle.std.specs.Prelude.{◌≡◌, ℕ, List, [], Option, None, Some, Result, Ok, Err}
use Rattle.template_values_errors.specs.declared.ErrorKind.{ErrorKind}
use Rattle.template_compiler_syntax.specs.Syntax.{Syntax}
use Rattle.template_compiler_placed_tokens.specs.Left.{Placed}
use Rattle.template_compiler_placed_tokens.specs.Reads.{IsRefusedKind, ReadsPiece}
use Rattle.template_compiler_placed_tokens.specs.declared.inside.Piece.{Piece}

-- the first of the tokens that are left, and where those behind it begin; or none is left; or why none is read
abbrev pub ReadsOrEnds : Syntax → List ℕ → ℕ → List Placed → Result (Option Piece) ErrorKind → Type 0
ReadsOrEnds x s from left (Ok (Some piece)) = ReadsPiece x s from left piece
ReadsOrEnds x s from left (Ok None) = left ≡ []
ReadsOrEnds x s from left (Err kind) = IsRefusedKind left kind
