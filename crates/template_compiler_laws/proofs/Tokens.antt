-- The tokens of a source weigh one more than its bytes at most: a start marker and an end take a byte each, only a line statement ends
-- without one, at the end of the source, and so does what never ends.
use Rattle.std.proofs.Common.{◌≡◌, ◌<◌, ◌≤◌, ℕ, zero, suc, ◌+◌, ◌-◌, Bool, true, false, List, [], ◌∷◌, length, take, drop, slice_index, None, Some, inl, inr, refl, ap, arith, length-take, length-drop}
use Rattle.std.specs.Prelude.{nat_lt, if◌then◌else◌, ◌==◌}
use Rattle.std.specs.Str.{chars, trim_start, trim_end}
use Rattle.std.proofs.lemmas.Bool.{cases_lt, cases_Bool, ltb-true}
use Rattle.template_compiler_syntax.specs.declared.StartMarker.{StartMarker}
use Rattle.template_compiler_syntax.specs.declared.StartMarker.TheVariants.{Variable, Block, Comment, LineStatement, LineComment}
use Rattle.template_compiler_syntax.specs.Syntax.{Syntax, IsFilled, IsUsable, IsSet, start_text}
use Rattle.template_compiler_tokens.specs.Token as token
use Rattle.template_compiler_tokens.specs.Token.{Token, variable_end}
use Rattle.template_compiler_syntax.specs.Places.{StandsAt, IsLineEnd, stretch, newline_len, is_first_on_line, less_final}
use Rattle.template_compiler_syntax.specs.declared.edges.Edge.{Edge}
use Rattle.template_compiler_syntax.specs.declared.edges.Edge.TheVariants.{Nothing, Beside}
use Rattle.template_compiler_syntax.specs.declared.edges.Trim.{Trim}
use Rattle.template_compiler_syntax.specs.declared.edges.Trim.TheVariants.{Plain, Minus, Plus}
use Rattle.template_compiler_syntax.specs.Segments.{IsNextStart, inside_from, start_sign, IsEnd, bare_end, signed_end, EndsAt, print_end, block_end, line_end, HasInside, ended, blank, token as a_token, no_token, Piece, data_piece, endless_piece, IsSegment, print_segment, block_segment, raw_segment, comment_segment, line_statement_segment, line_comment_segment, IsEndless, endless_print, endless_block, endless_line_statement, endless_raw, endless_comment, HasPieces, no_start, next_start, endless_start}
use Rattle.template_compiler_syntax.specs.Stripping.{stripped_from, stripped_to, with_data, with_stripped, next_edge, stripped}
use Rattle.template_compiler_syntax.specs.Flat.{tokens_of, template_text, IsTokens, source_tokens}
use Rattle.template_compiler_syntax.proofs.Data.{less_blanks_le}
use Rattle.template_compiler_sources.specs.Scoped.{after, is_scoped, taken_words, unscoped}
use Rattle.template_compiler_laws.proofs.Weights.{weight, weight-append, takes_weight}

-- one more than what is left, where something is left
abbrev room : ℕ → ℕ
room zero = 0
room (suc n) = suc (suc n)

room_most : (n : ℕ) → room n ≤ suc n
room_most zero = omega arith
room_most (suc n) = omega arith

room_least : (n : ℕ) → n ≤ room n
room_least zero = omega arith
room_least (suc n) = omega arith

room_some : (n : ℕ) → 0 < n → room n ≡ suc n
room_some zero some = absurd (omega arith)
room_some (suc n) some = refl

room_more : (n m : ℕ) → n ≤ m → room n ≤ room m
room_more zero m more = omega arith
room_more (suc n) zero more = absurd (omega arith)
room_more (suc n) (suc m) more = omega arith

-- a text that is set stands before the end
set_long : (text : List ℕ) → IsSet text → 0 < length text
set_long [] set = absurd (set refl)
set_long (b ∷ text) set = omega arith

stands_within : (s : List ℕ) (i : ℕ) (text : List ℕ) → IsSet text → StandsAt s i text → i + length text ≤ length s
stands_within s i text set stands =
    omega (arith, set_long text set, ap length stands, length-take (length text) (drop i s), length-drop i s)

end_room : (s end : List ℕ) {i next : ℕ} {last : Trim} → IsSet end → IsEnd s end i last next → (suc i ≤ next) × (i < length s)
end_room s end {i = i} set (bare_end stands e) =
    let long = set_long end set in let within = stands_within s i end set stands in (omega arith, omega arith)
end_room s end {i = i} set (signed_end none stands l signed e) =
    let long = set_long end set in let within = stands_within s (i + 1) end set stands in (omega arith, omega arith)

-- behind an end there is room for one token less
room_behind : (n i next : ℕ) → suc i ≤ next → i < n → suc (room (n - next)) ≤ suc (n - i)
room_behind n i next low high = omega (arith, room_most (n - next))

line_room : (s : List ℕ) (i next : ℕ) → IsLineEnd s i → next ≡ i + newline_len s i → suc (room (length s - next)) ≤ suc (length s - i)
line_room s i next over e =
    elim (cases_lt next (length s)) [
      | inr behind ↦ (let none : length s - next ≡ 0 = omega arith in omega (arith, ap room none))
      | inl before ↦ elim over [
        | inl some ↦ omega (arith, room_most (length s - next))
        | inr end ↦ absurd (omega arith)
      ]
    ]

over_room : (x : Syntax) (s : List ℕ) {k : StartMarker} {i next : ℕ} {last : Trim} → IsFilled x → EndsAt x s k i last next →
    suc (room (length s - next)) ≤ suc (length s - i)
over_room x s {i = i} {next = next} filled (print_end black end) =
    let at = end_room s x.variable_end filled.variable_end end in room_behind (length s) i next (at.0) (at.1)
over_room x s {i = i} {next = next} filled (block_end black end) =
    let at = end_room s x.block_end filled.block_end end in room_behind (length s) i next (at.0) (at.1)
over_room x s {i = i} {next = next} filled (line_end over e) = line_room s i next over e

-- the tokens of a segment
inside_room : (x : Syntax) (s : List ℕ) {k : StartMarker} {d i next : ℕ} {last : Trim} {tokens : List Token} → IsFilled x →
    HasInside x s k d i tokens (Some (last, next)) → suc (weight tokens + room (length s - next)) ≤ suc (length s - i)
inside_room x s filled (ended over) = omega (arith, over_room x s filled over)
inside_room x s {i = i} filled (blank none white inside) = let rest = inside_room x s filled inside in omega arith
inside_room x s {i = i} filled (a_token {n = n} {t = t} none black is good inside) =
    let rest = inside_room x s filled inside in let takes = takes_weight s i n t is good in omega (arith, takes.0, takes.1)

endless_room : (x : Syntax) (s : List ℕ) {k : StartMarker} {d i : ℕ} {tokens : List Token} →
    HasInside x s k d i tokens None → weight tokens ≤ suc (length s - i)
endless_room x s (blank none white inside) = let rest = endless_room x s inside in omega arith
endless_room x s {i = i} (a_token {n = n} {t = t} none black is good inside) =
    let rest = endless_room x s inside in let takes = takes_weight s i n t is good in omega (arith, takes.0, takes.1)
endless_room x s (no_token none black is) = omega arith

-- data takes a byte for its token
stretch_none : (s : List ℕ) (from to : ℕ) → to ≤ from → stretch s from to ≡ []
stretch_none s from to none = let zero : to - from ≡ 0 = omega arith in ap (λ n. take n (drop from s)) zero

trim_start_none : trim_start [] ≡ []
unfolding chars trim_start
trim_start_none = refl

trim_end_none : trim_end [] ≡ []
unfolding chars trim_end
trim_end_none = refl

from_behind : (x : Syntax) (s : List ℕ) (left : Edge) (from to : ℕ) → to ≤ from → to ≤ stripped_from x s left from to
from_behind x s Nothing from to none = none
from_behind x s (Beside k Minus) from to none =
    omega (arith, ap (λ t. length (trim_start t)) (stretch_none s from to none), ap length trim_start_none)
from_behind x s (Beside k Plus) from to none = none
from_behind x s (Beside Block Plain) from to none = elim (cases_Bool x.trim_blocks) [ inl is ↦ rw is (omega arith) | inr none' ↦ rw none' none ]
from_behind x s (Beside Comment Plain) from to none = elim (cases_Bool x.trim_blocks) [ inl is ↦ rw is (omega arith) | inr none' ↦ rw none' none ]
from_behind x s (Beside Variable Plain) from to none = none
from_behind x s (Beside LineStatement Plain) from to none = none
from_behind x s (Beside LineComment Plain) from to none = none

to_before : (x : Syntax) (s : List ℕ) (right : Edge) (from to : ℕ) → to ≤ from → stripped_to x s right from to ≤ from
to_before x s Nothing from to none = none
to_before x s (Beside k Minus) from to none =
    omega (arith, ap (λ t. length (trim_end t)) (stretch_none s from to none), ap length trim_end_none)
to_before x s (Beside k Plus) from to none = none
to_before x s (Beside Variable Plain) from to none = none
to_before x s (Beside Block Plain) from to none =
    elim (cases_Bool x.lstrip_blocks) [ inl is ↦ rw is (omega (arith, less_blanks_le s to)) | inr none' ↦ rw none' none ]
to_before x s (Beside Comment Plain) from to none =
    elim (cases_Bool x.lstrip_blocks) [ inl is ↦ rw is (omega (arith, less_blanks_le s to)) | inr none' ↦ rw none' none ]
to_before x s (Beside LineStatement Plain) from to none = omega (arith, less_blanks_le s to)
to_before x s (Beside LineComment Plain) from to none = omega (arith, less_blanks_le s to)

data_room : (s : List ℕ) (from to : ℕ) (pieces : List Piece) →
    weight (tokens_of s (with_data from to pieces)) ≤ suc (weight (tokens_of s pieces))
data_room s from to pieces = elim (cases_Bool (nat_lt from to)) [ inl some ↦ rw some (omega arith) | inr none ↦ rw none (omega arith) ]

no_data : (s : List ℕ) (from to : ℕ) (pieces : List Piece) → to ≤ from → tokens_of s (with_data from to pieces) ≡ tokens_of s pieces
no_data s from to pieces none =
    elim (cases_Bool (nat_lt from to)) [ inl some ↦ absurd (omega (arith, ltb-true from to some)) | inr other ↦ rw other refl ]

stripped_room : (x : Syntax) (s : List ℕ) (left right : Edge) (from to : ℕ) (pieces : List Piece) →
    weight (tokens_of s (with_stripped x s left right from to pieces)) ≤ (to - from) + weight (tokens_of s pieces)
stripped_room x s left right from to pieces =
    let begin = stripped_from x s left from to in
    elim (cases_lt from to) [
      | inl some ↦ omega (arith, data_room s begin (stripped_to x s right begin to) pieces)
      | inr none ↦ omega (arith, ap weight (no_data s begin (stripped_to x s right begin to) pieces (to_before x s right begin to (from_behind x s left from to none))))
    ]

-- a start marker takes a byte
start_room : (x : Syntax) (s : List ℕ) {from i : ℕ} {k : StartMarker} → IsNextStart x s from i k →
    (suc i ≤ inside_from x s k i) × (i < length s) × (from ≤ i)
start_room x s {i = i} {k = k} start =
    let long = set_long (start_text x k) (start.here.is_set) in
    let within = stands_within s i (start_text x k) (start.here.is_set) (start.here.stands) in
    (omega arith, omega arith, start.ahead)

some_room : (n from i : ℕ) → from ≤ i → i < n → (i - from) + suc (n - i) ≤ room (n - from)
some_room n from i low high = omega (arith, room_some (n - from) (omega arith))

comment_next : (first : Bool) (end n next : ℕ) → next ≡ (if first then end + n else end) → end ≤ next
comment_next true end n next e = omega arith
comment_next false end n next e = omega arith

-- the tokens of what begins with a start marker, and of all behind it
segment_room : (x : Syntax) (s : List ℕ) {i next : ℕ} {k : StartMarker} {piece : Piece} (pieces : List Piece) → IsFilled x →
    suc i ≤ inside_from x s k i → i < length s → IsSegment x s i k piece next →
    ((left : Edge) → weight (tokens_of s (stripped x s left pieces)) ≤ room (length s - next)) →
    weight (tokens_of s (stripped x s Nothing (piece ∷ pieces))) ≤ suc (length s - i)
segment_room x s pieces filled some low (print_segment {tokens = tokens} {last = last} inside) rest =
    let behind = rest (Beside Variable last) in let room = inside_room x s filled inside in
    omega (arith, weight-append tokens (variable_end ∷ tokens_of s (stripped x s (Beside Variable last) pieces)))
segment_room x s pieces filled some low (block_segment {tokens = tokens} {last = last} inside other) rest =
    let behind = rest (Beside Block last) in let room = inside_room x s filled inside in
    omega (arith, weight-append tokens (token.block_end ∷ tokens_of s (stripped x s (Beside Block last) pieces)))
segment_room x s pieces filled some low (raw_segment {inner = inner} {last = last} {from = from} {to = to} inside first outside) rest =
    let behind = rest (Beside Block last) in let room = inside_room x s filled inside in let room' = inside_room x s filled outside in
    let begin = stripped_from x s (Beside Block inner) from to in
    omega (arith, first.ahead, room_least (length s - from), data_room s begin (stripped_to x s (Beside Block (start_sign x s Block to)) begin to) (stripped x s (Beside Block last) pieces))
segment_room x s pieces filled some low (comment_segment {next = next} {last = last} first sign e) rest =
    let behind = rest (Beside Comment last) in omega (arith, first.ahead, room_most (length s - next))
segment_room x s pieces filled some low (line_statement_segment {tokens = tokens} {last = last} inside) rest =
    let behind = rest (Beside LineStatement last) in let room = inside_room x s filled inside in
    omega (arith, weight-append tokens (token.block_end ∷ tokens_of s (stripped x s (Beside LineStatement last) pieces)))
segment_room x s {i = i} pieces filled some low (line_comment_segment {end = end} {next = next} first e) rest =
    let behind = rest (Beside LineComment Plain) in
    omega (arith, first.ahead, room_most (length s - next), comment_next (is_first_on_line s i) end (newline_len s end) next e)

never_room : (x : Syntax) (s : List ℕ) {i : ℕ} {k : StartMarker} {tokens : List Token} → suc i ≤ inside_from x s k i → i < length s →
    IsEndless x s i k tokens → weight tokens ≤ suc (length s - i)
never_room x s some low (endless_print inside) = omega (arith, endless_room x s inside)
never_room x s some low (endless_block inside) = omega (arith, endless_room x s inside)
never_room x s some low (endless_line_statement inside) = omega (arith, endless_room x s inside)
never_room x s some low (endless_raw inside none) = omega arith
never_room x s some low (endless_comment none) = omega arith

pieces_room : (x : Syntax) (s : List ℕ) {from : ℕ} {pieces : List Piece} → IsFilled x → HasPieces x s from pieces → (left : Edge) →
    weight (tokens_of s (stripped x s left pieces)) ≤ room (length s - from)
pieces_room x s {from = from} filled (no_start none) left =
    omega (arith, stripped_room x s left Nothing from (length s) [], room_least (length s - from))
pieces_room x s {from = from} filled (next_start {i = i} {piece = piece} {pieces = pieces} start begun more) left =
    let at = start_room x s start in
    let behind = segment_room x s pieces filled (at.0) (at.1) begun (pieces_room x s filled more) in
    let all : weight (tokens_of s (stripped x s left (data_piece from i ∷ piece ∷ pieces)))
    ≤ (i - from) + weight (tokens_of s (stripped x s Nothing (piece ∷ pieces))) =
    stripped_room x s left (next_edge x s (piece ∷ pieces)) from i (stripped x s Nothing (piece ∷ pieces)) in
    omega (arith, all, behind, some_room (length s) from i (at.2) (at.1))
pieces_room x s {from = from} filled (endless_start {i = i} {k = k} {tokens = tokens} start never) left =
    let at = start_room x s start in
    let behind = never_room x s (at.0) (at.1) never in
    let all : weight (tokens_of s (stripped x s left (data_piece from i ∷ endless_piece k i tokens ∷ []))) ≤ (i - from) + weight tokens =
    stripped_room x s left (Beside k (start_sign x s k i)) from i (endless_piece k i tokens ∷ []) in
    omega (arith, all, behind, some_room (length s) from i (at.2) (at.1))

-- the newline at the end
final_within : (c : ℕ) (s : List ℕ) → length (less_final c s) ≤ length s
final_within c s =
    elim (cases_Bool (slice_index s (length s - 1) == c)) [
      | inl is ↦ rw is (omega (arith, length-take (length s - 1) s))
      | inr other ↦ rw other (omega arith)
    ]

text_within : (x : Syntax) (source : List ℕ) → length (template_text x source) ≤ length source
text_within x source =
    elim (cases_Bool x.keep_trailing_newline) [
      | inl is ↦ rw is (omega arith)
      | inr other ↦ rw other (omega (arith, final_within 10 source, final_within 13 (less_final 10 source)))
    ]

tokens_bound : (x : Syntax) (source : List ℕ) (tokens : List Token) → IsUsable x → IsTokens x source tokens → weight tokens ≤ suc (length source)
tokens_bound x source tokens usable (source_tokens pieces e) =
    let s = template_text x source in
    omega (arith, ap weight e, pieces_room x s (usable.filled) pieces Nothing, room_most (length s - 0), text_within x source)

-- without the words that are left out
less_weight : (b : Bool) (t : Token) (us ts : List Token) → weight us ≤ weight ts → weight (if b then us else t ∷ us) ≤ weight (t ∷ ts)
less_weight true t us ts least = omega (arith, least)
less_weight false t us ts least = omega (arith, least)

unscoped_weight : (head : _) (ts : List Token) → weight (unscoped (λ t. t) head ts) ≤ weight ts
unscoped_weight head [] = omega arith
unscoped_weight head (t ∷ ts) = less_weight (is_scoped head t) t _ ts (unscoped_weight (after head t) ts)

taken_weight : (scoped : Bool) (ts : List Token) → weight (taken_words scoped ts) ≤ weight ts
taken_weight true ts = unscoped_weight _ ts
taken_weight false ts = omega arith

pub taken_bound : (x : Syntax) (source : List ℕ) (tokens : List Token) → IsUsable x → IsTokens x source tokens →
    weight (taken_words x.scoped_blocks tokens) ≤ suc (length source)
taken_bound x source tokens usable spelled =
    omega (arith, taken_weight x.scoped_blocks tokens, tokens_bound x source tokens usable spelled)
