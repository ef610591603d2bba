-- The tokens of a source, one after another: what the grammar reads.
use Rattle.std.specs.Prelude.{◌≡◌, ℕ, if◌then◌else◌, List, [], ◌∷◌, ◌++◌}
use Rattle.template_compiler_syntax.specs.declared.StartMarker.{StartMarker}
use Rattle.template_compiler_syntax.specs.declared.StartMarker.TheVariants.{Variable, Block, Comment, LineStatement, LineComment}
use Rattle.template_compiler_syntax.specs.Syntax.{Syntax}
use Rattle.template_compiler_tokens.specs.Token.{Token, template_data, variable_start, variable_end, block_start, block_end}
use Rattle.template_compiler_syntax.specs.Places.{stretch, less_final_newline}
use Rattle.template_compiler_syntax.specs.Segments.{Piece, data_piece, segment, raw_piece, endless_piece, HasPieces}
use Rattle.template_compiler_syntax.specs.Stripping.{stripped}
use Rattle.template_compiler_syntax.specs.declared.edges.Edge.TheVariants.{Nothing}

-- a segment's tokens with those of its start and its end; comments have none
abbrev pub segment_tokens : StartMarker → List Token → List Token → List Token
segment_tokens Variable tokens behind = variable_start ∷ tokens ++ (variable_end ∷ behind)
segment_tokens Block tokens behind = block_start ∷ tokens ++ (block_end ∷ behind)
segment_tokens LineStatement tokens behind = block_start ∷ tokens ++ (block_end ∷ behind)
segment_tokens Comment tokens behind = behind
segment_tokens LineComment tokens behind = behind

-- the tokens of stripped pieces; nothing follows what never ends
abbrev pub tokens_of : List ℕ → List Piece → List Token
tokens_of s [] = []
tokens_of s (data_piece from to ∷ pieces) = template_data (stretch s from to) ∷ tokens_of s pieces
tokens_of s (segment k begin tokens last next ∷ pieces) = segment_tokens k tokens (tokens_of s pieces)
tokens_of s (raw_piece begin inner from to last next ∷ pieces) = template_data (stretch s from to) ∷ tokens_of s pieces
tokens_of s (endless_piece k begin tokens ∷ pieces) = tokens

-- a source without the newline at its end, unless the syntax keeps it
abbrev pub template_text : Syntax → List ℕ → List ℕ
template_text x source = if x.keep_trailing_newline then source else less_final_newline source

-- the tokens of a source
pub data IsTokens (x : Syntax) (source : List ℕ) : List Token → Type 0 where
  source_tokens : {pieces : List Piece} {tokens : List Token} → HasPieces x (template_text x source) 0 pieces →
      tokens ≡ tokens_of (template_text x source) (stripped x (template_text x source) Nothing pieces) → IsTokens x source tokens

-- the tokens of a text without segments
abbrev pub plain_tokens : List ℕ → List Token
plain_tokens [] = []
plain_tokens (b ∷ s) = template_data (b ∷ s) ∷ []
