-- What white space of the data goes, as the segments beside it say.
use Rattle.template_compiler_syntax.specs.declared.edges.Edge.{Edge}
use Rattle.template_compiler_syntax.specs.declared.edges.Edge.TheVariants.{Nothing, Beside}
use Rattle.std.specs.Prelude.{ℕ, ◌+◌, ◌-◌, Bool, true, false, nat_lt, if◌then◌else◌, List, [], ◌∷◌, length, drop}
use Rattle.std.specs.Str.{trim_start, trim_end}
use Rattle.template_compiler_syntax.specs.declared.StartMarker.TheVariants.{Variable, Block, Comment, LineStatement, LineComment}
use Rattle.template_compiler_syntax.specs.Syntax.{Syntax}
use Rattle.template_compiler_syntax.specs.Places.{stretch, blanks_from, is_first_on_line, newline_len}
use Rattle.template_compiler_syntax.specs.declared.edges.Trim.TheVariants.{Plain, Minus, Plus}
use Rattle.template_compiler_syntax.specs.Segments.{Piece, data_piece, segment, raw_piece, endless_piece, start_sign}

-- the place, less the blanks before it where only they stand before it on its line
abbrev pub less_blanks : List ℕ → ℕ → ℕ
less_blanks s i = if is_first_on_line s i then blanks_from s i else i

-- the place, past the newline that stands there, if it does so before `to`
abbrev pub past_newline : List ℕ → ℕ → ℕ → ℕ
past_newline s from to = from + newline_len (stretch s from to) 0

-- where data begins behind a segment: `-` takes all white space, Unicode's `White_Space`,
-- and `trim_blocks` one newline behind a block or a comment without a sign
abbrev pub stripped_from : Syntax → List ℕ → Edge → ℕ → ℕ → ℕ
stripped_from x s Nothing from to = from
stripped_from x s (Beside k Minus) from to = to - length (trim_start (stretch s from to))
stripped_from x s (Beside k Plus) from to = from
stripped_from x s (Beside Block Plain) from to = if x.trim_blocks then past_newline s from to else from
stripped_from x s (Beside Comment Plain) from to = if x.trim_blocks then past_newline s from to else from
stripped_from x s (Beside k Plain) from to = from

-- where data ends before a segment: `-` takes all white space, and the blanks that begin a line go before a line statement,
-- a line comment and, with `lstrip_blocks`, before a block or a comment without a sign
abbrev pub stripped_to : Syntax → List ℕ → Edge → ℕ → ℕ → ℕ
stripped_to x s Nothing from to = to
stripped_to x s (Beside k Minus) from to = from + length (trim_end (stretch s from to))
stripped_to x s (Beside k Plus) from to = to
stripped_to x s (Beside Variable Plain) from to = to
stripped_to x s (Beside Block Plain) from to = if x.lstrip_blocks then less_blanks s to else to
stripped_to x s (Beside Comment Plain) from to = if x.lstrip_blocks then less_blanks s to else to
stripped_to x s (Beside LineStatement Plain) from to = less_blanks s to
stripped_to x s (Beside LineComment Plain) from to = less_blanks s to

-- the data between two places, if any is left, before the pieces
abbrev pub with_data : ℕ → ℕ → List Piece → List Piece
with_data from to pieces = if nat_lt from to then data_piece from to ∷ pieces else pieces

-- data is stripped on its left first, and then what is left of it on its right
abbrev pub with_stripped : Syntax → List ℕ → Edge → Edge → ℕ → ℕ → List Piece → List Piece
with_stripped x s left right from to pieces =
    with_data (stripped_from x s left from to) (stripped_to x s right (stripped_from x s left from to) to) pieces

-- what the data before the pieces has on its right
abbrev pub next_edge : Syntax → List ℕ → List Piece → Edge
next_edge x s [] = Nothing
next_edge x s (data_piece from to ∷ pieces) = Nothing
next_edge x s (segment k begin tokens last next ∷ pieces) = Beside k (start_sign x s k begin)
next_edge x s (raw_piece begin inner from to last next ∷ pieces) = Beside Block (start_sign x s Block begin)
next_edge x s (endless_piece k begin tokens ∷ pieces) = Beside k (start_sign x s k begin)

-- the pieces with their data stripped, behind what stands on their left; raw blocks become their data
abbrev pub stripped : Syntax → List ℕ → Edge → List Piece → List Piece
stripped x s left [] = []
stripped x s left (data_piece from to ∷ pieces) =
    with_stripped x s left (next_edge x s pieces) from to (stripped x s Nothing pieces)
stripped x s left (segment k begin tokens last next ∷ pieces) =
    segment k begin tokens last next ∷ stripped x s (Beside k last) pieces
stripped x s left (raw_piece begin inner from to last next ∷ pieces) =
    with_stripped x s (Beside Block inner) (Beside Block (start_sign x s Block to)) from to (stripped x s (Beside Block last) pieces)
stripped x s left (endless_piece k begin tokens ∷ pieces) = endless_piece k begin tokens ∷ stripped x s Nothing pieces

-- the text of data, less what goes on its left
abbrev pub less_start : Syntax → Edge → List ℕ → List ℕ
less_start x Nothing text = text
less_start x (Beside k Minus) text = trim_start text
less_start x (Beside k Plus) text = text
less_start x (Beside Block Plain) text = if x.trim_blocks then drop (newline_len text 0) text else text
less_start x (Beside Comment Plain) text = if x.trim_blocks then drop (newline_len text 0) text else text
less_start x (Beside k Plain) text = text

-- the blanks that begin a line go before the edge
abbrev pub strips_blanks : Syntax → Edge → Bool
strips_blanks x Nothing = false
strips_blanks x (Beside k Minus) = false
strips_blanks x (Beside k Plus) = false
strips_blanks x (Beside Variable Plain) = false
strips_blanks x (Beside Block Plain) = x.lstrip_blocks
strips_blanks x (Beside Comment Plain) = x.lstrip_blocks
strips_blanks x (Beside LineStatement Plain) = true
strips_blanks x (Beside LineComment Plain) = true

abbrev pub is_minus : Edge → Bool
is_minus Nothing = false
is_minus (Beside k Minus) = true
is_minus (Beside k Plus) = false
is_minus (Beside k Plain) = false
