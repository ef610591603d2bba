-- How the tokens that are left go on.
use Rattle.std.proofs.Common.{◌≡◌, ℕ, suc, ◌+◌, ◌-◌, ◌<◌, ◌≤◌, ◌⊎◌, inl, inr, Bool, true, false, List, [], ◌∷◌, ◌++◌, length, take, drop, slice_index, None, Some, refl, sym, ◌∙◌, ap, subst, arith, length-take, length-drop}
use Rattle.std.proofs.lemmas.Bool.{cases_lt, lt-ltb, le-ltb}
use Rattle.std.specs.Prelude.{if◌then◌else◌, codes}
use Rattle.std.specs.Str.{trim_start, trim_end, chars}
use Rattle.std.specs.Char.{is_ascii_whitespace}
use Rattle.template_compiler_syntax.specs.declared.StartMarker.{StartMarker}
use Rattle.template_compiler_syntax.specs.declared.StartMarker.TheVariants.{Variable, Block, Comment, LineStatement, LineComment}
use Rattle.template_compiler_syntax.specs.Syntax.{Syntax, IsUsable}
use Rattle.template_compiler_tokens.specs.Token.{Token, TokenFault, bad, bad_syntax, template_data}
use Rattle.template_compiler_tokens.specs.Lexical.{IsToken}
use Rattle.template_compiler_tokens.proofs.OneToken.{one_token, some_token}
use Rattle.template_compiler_syntax.specs.declared.edges.Edge.{Edge}
use Rattle.template_compiler_syntax.specs.declared.edges.Edge.TheVariants.{Nothing, Beside}
use Rattle.template_compiler_syntax.specs.declared.edges.Trim.{Trim}
use Rattle.template_compiler_syntax.specs.declared.edges.Trim.TheVariants.{Plain, Minus, Plus}
use Rattle.template_compiler_syntax.specs.Places.{stretch, IsFirst, IsNowhere, IsLineEnd, newline_len, is_first_on_line}
use Rattle.template_compiler_syntax.specs.Segments.{HasNoStart, IsNextStart, start_sign, inside_from, EndsAt, IsOver, open_brackets, is_bad, Ending, HasInside, ended, blank, token, no_token, HoldsInside, only, IsRawEnd, comment_sign, IsCommentEnd, Piece, data_piece, endless_piece, IsSegment, print_segment, block_segment, raw_segment, comment_segment, line_statement_segment, line_comment_segment, IsEndless, endless_print, endless_block, endless_line_statement, endless_raw, endless_comment, HasPieces, no_start, next_start, endless_start}
use Rattle.template_compiler_syntax.specs.Stripping.{stripped, stripped_from, stripped_to, with_data, with_stripped, next_edge, less_blanks, past_newline}
use Rattle.template_compiler_syntax.proofs.Bytes.{takes_bytes}
use Rattle.template_compiler_syntax.proofs.One.{one_inside, one_list}
use Rattle.template_compiler_syntax.proofs.Pieces.{some_inside, some_list, begun}
use Rattle.template_compiler_syntax.proofs.Data.{less_blanks_le}
use Rattle.template_compiler_placed_tokens.specs.Left.{Placed, placed, placed_in, inside_of, ending_of, placed_start, placed_of, pieces_at, data_tokens, end_token, behind_ending, inside_tokens}
use Rattle.template_compiler_placed_tokens.proofs.OnePlaced.{one_placed}

empty_minus : (s : List ℕ) (i : ℕ) → i + length (trim_end (stretch s i i)) ≤ i
unfolding trim_end chars
empty_minus s i =
    let none : i - i ≡ 0 = omega arith in
    let nothing : length (trim_end (stretch s i i)) ≡ 0 = ap (λ n. length (trim_end (take n (drop i s)))) none in omega arith

empty_start : (s : List ℕ) (i : ℕ) → i - length (trim_start (stretch s i i)) ≡ i
unfolding trim_start chars
empty_start s i =
    let none : i - i ≡ 0 = omega arith in
    let nothing : length (trim_start (stretch s i i)) ≡ 0 = ap (λ n. length (trim_start (take n (drop i s)))) none in omega arith

empty_line : (s : List ℕ) (t : Bool) (i : ℕ) → (if t then past_newline s i i else i) ≡ i
empty_line s true i =
    let none : i - i ≡ 0 = omega arith in
    let nothing : newline_len (stretch s i i) 0 ≡ 0 = ap (λ n. newline_len (take n (drop i s)) 0) none in omega arith
empty_line s false i = refl

empty_if : (s : List ℕ) (t : Bool) (i : ℕ) → (if t then less_blanks s i else i) ≤ i
empty_if s true i = less_blanks_le s i
empty_if s false i = omega arith

module _ (x : Syntax) (s : List ℕ) where
  pub inside_is : {k : StartMarker} {d i : ℕ} {tokens : List Token} {ending : Ending} (has : HasInside x s k d i tokens ending) →
      inside_tokens x s k d i ≡ placed_in has ++ behind_ending x s k ending
  unfolding inside_tokens inside_of ending_of
  inside_is {k = k} {d = d} {i = i} has =
      let inside = some_inside one_token some_token takes_bytes x s k d i in
      let same = one_placed (inside.2) has in
      let ends = (one_inside one_token (inside.2) has).1 in
      ap (λ ts. ts ++ behind_ending x s k (inside.1)) same ∙ ap (λ e. placed_in has ++ behind_ending x s k e) ends

  -- a segment's tokens, by how it ends
  ended_inside : {k : StartMarker} {d i : ℕ} {tokens : List Token} {ending : Ending} → HasInside x s k d i tokens ending →
      inside_tokens x s k d i ≡ inside_of x s k d i ++ behind_ending x s k ending
  unfolding inside_tokens ending_of
  ended_inside {k = k} {d = d} {i = i} has =
      let inside = some_inside one_token some_token takes_bytes x s k d i in
      let ends = (one_inside one_token (inside.2) has).1 in
      ap (λ e. inside_of x s k d i ++ behind_ending x s k e) ends

  -- the segment ends
  pub inside_over : (k : StartMarker) (i next : ℕ) (last : Trim) → EndsAt x s k i last next →
      inside_tokens x s k 0 i ≡ placed (end_token k) i next ∷ data_tokens x s (Beside k last) next
  inside_over k i next last over = inside_is (ended over)

  -- white space parts tokens
  pub inside_blank : (k : StartMarker) (d i : ℕ) → (d ≡ 0 → IsOver x s k i → ⊥) → is_ascii_whitespace (slice_index s i) ≡ true →
      inside_tokens x s k d i ≡ inside_tokens x s k d (i + 1)
  unfolding inside_tokens inside_of ending_of
  inside_blank k d i none white =
      let rest = some_inside one_token some_token takes_bytes x s k d (suc i) in
      inside_is (blank none white (rest.2)) ∙ ap (λ n. inside_tokens x s k d n) (let e : suc i ≡ i + 1 = omega arith in e)

  pub inside_token : (k : StartMarker) (d i n : ℕ) (t : Token) → (d ≡ 0 → IsOver x s k i → ⊥) → is_ascii_whitespace (slice_index s i) ≡ false →
      IsToken s i t n → is_bad t ≡ false → inside_tokens x s k d i ≡ placed t i n ∷ inside_tokens x s k (open_brackets t d) n
  unfolding inside_tokens inside_of ending_of
  inside_token k d i n t none black has good =
      let rest = some_inside one_token some_token takes_bytes x s k (open_brackets t d) n in
      inside_is (token none black has good (rest.2))

  pub inside_bad : (k : StartMarker) (d i n : ℕ) (fault : TokenFault) → (d ≡ 0 → IsOver x s k i → ⊥) → is_ascii_whitespace (slice_index s i) ≡ false →
      IsToken s i (bad fault) n → inside_tokens x s k d i ≡ placed (bad fault) i n ∷ []
  inside_bad k d i n fault none black has = inside_is (no_token none black has)

  module _ (usable : IsUsable x) where
    pieces_are : (from : ℕ) (pieces : List Piece) → HasPieces x s from pieces → pieces_at x s from ≡ pieces
    unfolding pieces_at
    pieces_are from pieces has = one_list one_token usable ((some_list one_token some_token takes_bytes x s from).1) has

    has_pieces : (from : ℕ) → HasPieces x s from (pieces_at x s from)
    unfolding pieces_at
    has_pieces from = (some_list one_token some_token takes_bytes x s from).1

    -- the tokens of data before others
    pub data_before : (from to : ℕ) (text : List ℕ) (pieces : List Piece) → text ≡ stretch s from to → to ≤ length s →
        ((length text ≡ 0) × (placed_of x s (with_data from to pieces) ≡ placed_of x s pieces)) ⊎
        ((0 < length text) ×
        (placed_of x s (with_data from to pieces) ≡ placed (template_data text) from (from + length text) ∷ placed_of x s pieces) ×
        (to ≡ from + length text))
    data_before from to text pieces e high =
        elim (cases_lt from to) [
          | inl some ↦
              let long : from + length text ≡ to = omega (arith, ap length e, length-take (to - from) (drop from s), length-drop from s) in
              inr (
                omega arith,
                rw (lt-ltb from to some)
                    (ap (λ t. placed (template_data t) from to ∷ placed_of x s pieces) (sym e) ∙
                    ap (λ n. placed (template_data text) from n ∷ placed_of x s pieces) (sym long)),
                sym long,
              )
          | inr none ↦
              inl (
                let long = ap length e in omega (arith, long, length-take (to - from) (drop from s), length-drop from s),
                rw (le-ltb from to none) refl,
              )
        ]

    -- the data is the first of the tokens, and goes from `begin` to `to`
    abbrev pub HoldsData : Edge → ℕ → List ℕ → ℕ → List Placed → ℕ → Type 0
    HoldsData left from text begin behind to =
        (0 < length text) × (data_tokens x s left from ≡ placed (template_data text) begin (begin + length text) ∷ behind) × (to ≡ begin + length text)

    edge_of : {i next : ℕ} {k : StartMarker} {piece : Piece} (pieces : List Piece) → IsSegment x s i k piece next →
        next_edge x s (piece ∷ pieces) ≡ Beside k (start_sign x s k i)
    edge_of pieces (print_segment h) = refl
    edge_of pieces (block_segment h other) = refl
    edge_of pieces (raw_segment h first end) = refl
    edge_of pieces (comment_segment first l n) = refl
    edge_of pieces (line_statement_segment h) = refl
    edge_of pieces (line_comment_segment first n) = refl

    -- the pieces of what begins at a start marker
    abbrev Rest : ℕ → StartMarker → Type 0
    Rest i k =
        (piece : Piece) × (pieces : List Piece) × (next_edge x s (piece ∷ pieces) ≡ Beside k (start_sign x s k i)) ×
        ((from : ℕ) → IsNextStart x s from i k → HasPieces x s from (data_piece from i ∷ piece ∷ pieces))

    rest_at : (from i : ℕ) (k : StartMarker) → IsNextStart x s from i k → Rest i k
    rest_at from i k start =
        elim (begun one_token some_token takes_bytes x s i k (start.here)) [
          | inl part ↦ (part.0, pieces_at x s (part.1), edge_of (pieces_at x s (part.1)) (part.3), λ f first. next_start first (part.3) (has_pieces (part.1)))
          | inr endless ↦ (endless_piece k i (endless.0), [], refl, λ f first. endless_start first (endless.1))
        ]

    pub here_start : {from i : ℕ} {k : StartMarker} → IsNextStart x s from i k → IsNextStart x s i i k
    here_start start = record {
      ahead = omega arith;
      here = start.here;
      longest = start.longest;
      leftmost = λ j low high. absurd (omega arith);
    }

    start_data : (left : Edge) (from i : ℕ) (k : StartMarker) (rest : Rest i k) → IsNextStart x s from i k →
        data_tokens x s left from ≡
        placed_of x s (with_stripped x s left (Beside k (start_sign x s k i)) from i (stripped x s Nothing (rest.0 ∷ rest.1)))
    start_data left from i k rest start =
        ap (λ pieces. placed_of x s (stripped x s left pieces)) (pieces_are from (data_piece from i ∷ rest.0 ∷ rest.1) (rest.3 from start)) ∙
        ap (λ right. placed_of x s (with_stripped x s left right from i (stripped x s Nothing (rest.0 ∷ rest.1)))) (rest.2)

    empty_to : (right : Edge) (i : ℕ) → stripped_to x s right i i ≤ i
    empty_to Nothing i = omega arith
    empty_to (Beside k Minus) i = empty_minus s i
    empty_to (Beside k Plus) i = omega arith
    empty_to (Beside Variable Plain) i = omega arith
    empty_to (Beside Block Plain) i = empty_if s (x.lstrip_blocks) i
    empty_to (Beside Comment Plain) i = empty_if s (x.lstrip_blocks) i
    empty_to (Beside LineStatement Plain) i = less_blanks_le s i
    empty_to (Beside LineComment Plain) i = less_blanks_le s i

    empty_data : (right : Edge) (i : ℕ) (pieces : List Piece) → with_stripped x s Nothing right i i pieces ≡ pieces
    empty_data right i pieces = rw (le-ltb i (stripped_to x s right i i) (empty_to right i)) refl

    -- data before a start marker, and what begins there
    pub data_next : (left : Edge) (from i : ℕ) (k : StartMarker) (text : List ℕ) → IsNextStart x s from i k →
        text ≡ stretch s (stripped_from x s left from i) (stripped_to x s (Beside k (start_sign x s k i)) (stripped_from x s left from i) i) →
        stripped_to x s (Beside k (start_sign x s k i)) (stripped_from x s left from i) i ≤ length s →
        ((length text ≡ 0) × (data_tokens x s left from ≡ data_tokens x s Nothing i)) ⊎
        HoldsData left from text (stripped_from x s left from i) (data_tokens x s Nothing i)
        (stripped_to x s (Beside k (start_sign x s k i)) (stripped_from x s left from i) i)
    data_next left from i k text start e high =
        let rest = rest_at from i k start in
        let right = Beside k (start_sign x s k i) in
        let pieces = stripped x s Nothing (rest.0 ∷ rest.1) in
        let whole = start_data left from i k rest start in
        let here = start_data Nothing i i k rest (here_start start) ∙ ap (λ ps. placed_of x s ps) (empty_data right i pieces) in
        elim (data_before (stripped_from x s left from i) (stripped_to x s right (stripped_from x s left from i) i) text pieces e high) [
          | inl none ↦ inl (none.0, whole ∙ (none.1 ∙ sym here))
          | inr some ↦
              let begin = stripped_from x s left from i in
              inr (some.0, whole ∙ (some.1 ∙ ap (λ ts. placed (template_data text) begin (begin + length text) ∷ ts) (sym here)), some.2)
        ]

    empty_from : (left : Edge) (i : ℕ) → stripped_from x s left i i ≡ i
    empty_from Nothing i = refl
    empty_from (Beside k Minus) i = empty_start s i
    empty_from (Beside k Plus) i = refl
    empty_from (Beside Variable Plain) i = refl
    empty_from (Beside Block Plain) i = empty_line s (x.trim_blocks) i
    empty_from (Beside Comment Plain) i = empty_line s (x.trim_blocks) i
    empty_from (Beside LineStatement Plain) i = refl
    empty_from (Beside LineComment Plain) i = refl

    -- no data stands before a start marker that follows at once
    pub no_data : (left : Edge) (i : ℕ) (k : StartMarker) → IsNextStart x s i i k → i ≤ length s → data_tokens x s left i ≡ data_tokens x s Nothing i
    no_data left i k start within =
        let right = Beside k (start_sign x s k i) in
        let begin = stripped_from x s left i i in
        let at = empty_from left i in
        let high : stripped_to x s right begin i ≤ i = subst (λ b. stripped_to x s right b i ≤ i) (sym at) (empty_to right i) in
        let none : stripped_to x s right begin i - begin ≡ 0 = omega arith in
        let e : [] ≡ stretch s begin (stripped_to x s right begin i) = sym (ap (λ n. take n (drop begin s)) none) in
        elim (data_next left i i k [] start e (omega arith)) [
          | inl empty ↦ empty.1
          | inr some ↦ absurd (let long = some.0 in omega arith)
        ]

    -- data to the end
    pub data_last : (left : Edge) (from : ℕ) (text : List ℕ) → HasNoStart x s from →
        text ≡ stretch s (stripped_from x s left from (length s)) (length s) →
        ((length text ≡ 0) × (data_tokens x s left from ≡ [])) ⊎
        HoldsData left from text (stripped_from x s left from (length s)) [] (length s)
    data_last left from text none e =
        let whole : data_tokens x s left from ≡ placed_of x s (with_data (stripped_from x s left from (length s)) (length s) []) =
        ap (λ pieces. placed_of x s (stripped x s left pieces)) (pieces_are from (data_piece from (length s) ∷ []) (no_start none)) in
        elim (data_before (stripped_from x s left from (length s)) (length s) text [] e (omega arith)) [
          | inl empty ↦ inl (empty.0, whole ∙ empty.1)
          | inr some ↦ inr (some.0, whole ∙ some.1, some.2)
        ]

    -- what a segment leaves
    at_segment : {i next : ℕ} {k : StartMarker} {piece : Piece} → IsNextStart x s i i k → IsSegment x s i k piece next →
        data_tokens x s Nothing i ≡ placed_of x s (stripped x s Nothing (piece ∷ pieces_at x s next))
    at_segment {i = i} {next = next} {k = k} {piece = piece} start part =
        let pieces = pieces_at x s next in
        ap (λ ps. placed_of x s (stripped x s Nothing ps)) (pieces_are i (data_piece i i ∷ piece ∷ pieces) (next_start start part (has_pieces next))) ∙
        ap (λ ps. placed_of x s ps) (empty_data (next_edge x s (piece ∷ pieces)) i (stripped x s Nothing (piece ∷ pieces)))

    pub at_endless : {i : ℕ} {k : StartMarker} {tokens : List Token} → IsNextStart x s i i k → IsEndless x s i k tokens →
        data_tokens x s Nothing i ≡ placed_of x s (endless_piece k i tokens ∷ [])
    at_endless {i = i} {k = k} {tokens = tokens} start endless =
        let piece = endless_piece k i tokens in
        ap (λ ps. placed_of x s (stripped x s Nothing ps)) (pieces_are i (data_piece i i ∷ piece ∷ []) (endless_start start endless)) ∙
        ap (λ ps. placed_of x s ps) (empty_data (next_edge x s (piece ∷ [])) i (stripped x s Nothing (piece ∷ [])))

    pub at_print : {i : ℕ} → IsNextStart x s i i Variable →
        data_tokens x s Nothing i ≡ placed_start x s Variable i ∷ inside_tokens x s Variable 0 (inside_from x s Variable i)
    at_print {i = i} start =
        let inside = some_inside one_token some_token takes_bytes x s Variable 0 (inside_from x s Variable i) in
        go (inside.0) (inside.1) (inside.2)
      where
        go : (tokens : List Token) (ending : Ending) → HoldsInside x s Variable i tokens ending →
            data_tokens x s Nothing i ≡ placed_start x s Variable i ∷ inside_tokens x s Variable 0 (inside_from x s Variable i)
        go tokens None h = at_endless start (endless_print h) ∙ ap (λ ts. placed_start x s Variable i ∷ ts) (sym (ended_inside h))
        go tokens (Some p) h = at_segment start (print_segment h) ∙ ap (λ ts. placed_start x s Variable i ∷ ts) (sym (ended_inside h))

    pub at_line_statement : {i : ℕ} → IsNextStart x s i i LineStatement →
        data_tokens x s Nothing i ≡ placed_start x s LineStatement i ∷ inside_tokens x s LineStatement 0 (inside_from x s LineStatement i)
    at_line_statement {i = i} start =
        let inside = some_inside one_token some_token takes_bytes x s LineStatement 0 (inside_from x s LineStatement i) in
        go (inside.0) (inside.1) (inside.2)
      where
        go : (tokens : List Token) (ending : Ending) → HoldsInside x s LineStatement i tokens ending →
            data_tokens x s Nothing i ≡ placed_start x s LineStatement i ∷ inside_tokens x s LineStatement 0 (inside_from x s LineStatement i)
        go tokens None h = at_endless start (endless_line_statement h) ∙ ap (λ ts. placed_start x s LineStatement i ∷ ts) (sym (ended_inside h))
        go tokens (Some p) h = at_segment start (line_statement_segment h) ∙ ap (λ ts. placed_start x s LineStatement i ∷ ts) (sym (ended_inside h))

    -- the block's only word is not `raw`
    pub at_block : {i : ℕ} → IsNextStart x s i i Block →
        ((last : Trim) (next : ℕ) → HoldsInside x s Block i (only (codes "raw")) (Some (last, next)) → ⊥) →
        data_tokens x s Nothing i ≡ placed_start x s Block i ∷ inside_tokens x s Block 0 (inside_from x s Block i)
    at_block {i = i} start other =
        let inside = some_inside one_token some_token takes_bytes x s Block 0 (inside_from x s Block i) in
        go (inside.0) (inside.1) (inside.2)
      where
        go : (tokens : List Token) (ending : Ending) → HoldsInside x s Block i tokens ending →
            data_tokens x s Nothing i ≡ placed_start x s Block i ∷ inside_tokens x s Block 0 (inside_from x s Block i)
        go tokens None h = at_endless start (endless_block h) ∙ ap (λ ts. placed_start x s Block i ∷ ts) (sym (ended_inside h))
        go tokens (Some p) h =
            at_segment start (block_segment h (λ raw. other (p.0) (p.1) (subst (λ ts. HoldsInside x s Block i ts (Some p)) raw h))) ∙
            ap (λ ts. placed_start x s Block i ∷ ts) (sym (ended_inside h))

    -- raw data, and what follows its end
    pub at_raw : {i from to next : ℕ} {inner last : Trim} (text : List ℕ) → IsNextStart x s i i Block →
        HoldsInside x s Block i (only (codes "raw")) (Some (inner, from)) → IsFirst (IsRawEnd x s) from to →
        HoldsInside x s Block to (only (codes "endraw")) (Some (last, next)) →
        text ≡ stretch s (stripped_from x s (Beside Block inner) from to)
        (stripped_to x s (Beside Block (start_sign x s Block to)) (stripped_from x s (Beside Block inner) from to) to) →
        stripped_to x s (Beside Block (start_sign x s Block to)) (stripped_from x s (Beside Block inner) from to) to ≤ length s →
        ((length text ≡ 0) × (data_tokens x s Nothing i ≡ data_tokens x s (Beside Block last) next)) ⊎
        HoldsData Nothing i text (stripped_from x s (Beside Block inner) from to) (data_tokens x s (Beside Block last) next)
        (stripped_to x s (Beside Block (start_sign x s Block to)) (stripped_from x s (Beside Block inner) from to) to)
    at_raw {from = from} {to = to} {next = next} {inner = inner} {last = last} text start h first end e high =
        let whole = at_segment start (raw_segment h first end) in
        let begin = stripped_from x s (Beside Block inner) from to in
        let right = Beside Block (start_sign x s Block to) in
        elim (data_before begin (stripped_to x s right begin to) text (stripped x s (Beside Block last) (pieces_at x s next)) e high) [
          | inl none ↦ inl (none.0, whole ∙ none.1)
          | inr some ↦ inr (some.0, whole ∙ some.1, some.2)
        ]

    pub at_endless_raw : {i from : ℕ} {inner : Trim} → IsNextStart x s i i Block →
        HoldsInside x s Block i (only (codes "raw")) (Some (inner, from)) → IsNowhere (IsRawEnd x s) from →
        data_tokens x s Nothing i ≡ placed (bad bad_syntax) i i ∷ []
    at_endless_raw start h none = at_endless start (endless_raw h none)

    pub at_comment : {i end : ℕ} → IsNextStart x s i i Comment → IsFirst (IsCommentEnd x s) (inside_from x s Comment i) end →
        data_tokens x s Nothing i ≡ data_tokens x s (Beside Comment (comment_sign s (inside_from x s Comment i) end)) (end + length (x.comment_end))
    at_comment start first = at_segment start (comment_segment first refl refl)

    pub at_endless_comment : {i : ℕ} → IsNextStart x s i i Comment → IsNowhere (IsCommentEnd x s) (inside_from x s Comment i) →
        data_tokens x s Nothing i ≡ placed (bad bad_syntax) i i ∷ []
    at_endless_comment start none = at_endless start (endless_comment none)

    pub at_line_comment : {i end : ℕ} → IsNextStart x s i i LineComment → IsFirst (IsLineEnd s) (inside_from x s LineComment i) end →
        data_tokens x s Nothing i ≡ data_tokens x s (Beside LineComment Plain) (if is_first_on_line s i then end + newline_len s end else end)
    at_line_comment start first = at_segment start (line_comment_segment first refl)
