-- The tokens that are left of a source, each where it stands.
use Rattle.std.specs.Prelude.{ℕ, List, [], ◌∷◌, ◌++◌, None, Some}
use Rattle.template_compiler_syntax.specs.declared.StartMarker.{StartMarker}
use Rattle.template_compiler_syntax.specs.declared.StartMarker.TheVariants.{Variable, Comment, LineComment}
use Rattle.template_compiler_syntax.specs.Syntax.{Syntax}
use Rattle.template_compiler_tokens.specs.Token.{Token, template_data, variable_start, variable_end, block_start, block_end, bad}
use Rattle.template_compiler_tokens.proofs.OneToken.{one_token, some_token}
use Rattle.template_compiler_syntax.specs.declared.edges.Edge.{Edge}
use Rattle.template_compiler_syntax.specs.declared.edges.Edge.TheVariants.{Nothing, Beside}
use Rattle.template_compiler_syntax.specs.Places.{stretch}
use Rattle.template_compiler_syntax.specs.Segments.{inside_from, Ending, HasInside, ended, blank, token, no_token, Piece, data_piece, segment, raw_piece, endless_piece}
use Rattle.template_compiler_syntax.specs.Stripping.{stripped}
use Rattle.template_compiler_syntax.proofs.Bytes.{takes_bytes}
use Rattle.template_compiler_syntax.proofs.Pieces.{some_inside, some_list}
use Rattle.template_compiler_placed_tokens.specs.declared.stage.Stage.{Stage}
use Rattle.template_compiler_placed_tokens.specs.declared.stage.Stage.TheVariants as stage

-- a token, the place of its first byte, and the place behind its last
pub record Placed : Type 0 where
  pub token : Token
  pub begin : ℕ
  pub end : ℕ

abbrev pub placed : Token → ℕ → ℕ → Placed
placed t begin end = record { token = t; begin = begin; end = end }

abbrev pub tokens_in : List Placed → List Token
tokens_in [] = []
tokens_in (p ∷ ps) = p.token ∷ tokens_in ps

abbrev pub start_token : StartMarker → Token
start_token Variable = variable_start
start_token _ = block_start

abbrev pub end_token : StartMarker → Token
end_token Variable = variable_end
end_token _ = block_end

-- the tokens inside a segment, and the marker that ends it: each begins where it stands behind white space.
-- An end marker goes from its sign, or its delimiter, to behind it; that of a line statement is its newline
abbrev pub placed_in : {x : Syntax} {s : List ℕ} {k : StartMarker} {d i : ℕ} {tokens : List Token} {ending : Ending} →
    HasInside x s k d i tokens ending → List Placed
placed_in {k = k} (ended {i = i} {next = next} over) = placed (end_token k) i next ∷ []
placed_in (blank none white rest) = placed_in rest
placed_in (token {i = i} {n = n} {t = t} none black stands good rest) = placed t i n ∷ placed_in rest
placed_in (no_token {i = i} {n = n} {fault = fault} none black stands) = placed (bad fault) i n ∷ []

-- the same from a place on where so many brackets are open: a place has one such list, and one ending
unfoldable pub inside_of : Syntax → List ℕ → StartMarker → ℕ → ℕ → List Placed
inside_of x s k d i = placed_in ((some_inside one_token some_token takes_bytes x s k d i).2)

unfoldable pub ending_of : Syntax → List ℕ → StartMarker → ℕ → ℕ → Ending
ending_of x s k d i = (some_inside one_token some_token takes_bytes x s k d i).1

-- the marker that starts a segment, with its sign
abbrev pub placed_start : Syntax → List ℕ → StartMarker → ℕ → Placed
placed_start x s k begin = placed (start_token k) begin (inside_from x s k begin)

-- a segment's tokens with its markers, before others; comments have none
abbrev pub placed_segment : Syntax → List ℕ → StartMarker → ℕ → List Placed → List Placed
placed_segment x s Comment begin behind = behind
placed_segment x s LineComment begin behind = behind
placed_segment x s k begin behind = placed_start x s k begin ∷ (inside_of x s k 0 (inside_from x s k begin) ++ behind)

-- the same of what never ends; where no token at all was read, it says so where it begins
abbrev pub placed_endless : Syntax → List ℕ → StartMarker → ℕ → List Token → List Placed
placed_endless x s k begin (bad fault ∷ tokens) = placed (bad fault) begin begin ∷ []
placed_endless x s k begin tokens = placed_segment x s k begin []

-- data is the stretch of the source between its places
abbrev pub placed_data : List ℕ → ℕ → ℕ → Placed
placed_data s from to = placed (template_data (stretch s from to)) from to

-- the tokens of stripped pieces
abbrev pub placed_of : Syntax → List ℕ → List Piece → List Placed
placed_of x s [] = []
placed_of x s (data_piece from to ∷ pieces) = placed_data s from to ∷ placed_of x s pieces
placed_of x s (segment k begin tokens last next ∷ pieces) = placed_segment x s k begin (placed_of x s pieces)
placed_of x s (raw_piece begin inner from to last next ∷ pieces) = placed_data s from to ∷ placed_of x s pieces
placed_of x s (endless_piece k begin tokens ∷ pieces) = placed_endless x s k begin tokens

-- the pieces from a place on: a source has one list of them
unfoldable pub pieces_at : Syntax → List ℕ → ℕ → List Piece
pieces_at x s from = (some_list one_token some_token takes_bytes x s from).0

-- the tokens from a place on where data begins, behind what stands on its left
abbrev pub data_tokens : Syntax → List ℕ → Edge → ℕ → List Placed
data_tokens x s left from = placed_of x s (stripped x s left (pieces_at x s from))

-- what follows a segment's end
abbrev pub behind_ending : Syntax → List ℕ → StartMarker → Ending → List Placed
behind_ending x s k None = []
behind_ending x s k (Some p) = data_tokens x s (Beside k (p.0)) (p.1)

-- the tokens from a place in a segment on, where so many brackets are open
unfoldable pub inside_tokens : Syntax → List ℕ → StartMarker → ℕ → ℕ → List Placed
inside_tokens x s k d i = inside_of x s k d i ++ behind_ending x s k (ending_of x s k d i)

-- the tokens that are left at a stage, from a place on
abbrev pub left_at : Syntax → List ℕ → Stage → ℕ → List Placed
left_at x s (stage.Data left) i = data_tokens x s left i
left_at x s (stage.Start k) i = data_tokens x s Nothing i
left_at x s (stage.Inside k d) i = inside_tokens x s k d i
