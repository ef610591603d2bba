-- Each place of a source has its segment, and a source its list of pieces.
use Rattle.std.proofs.Common.{◌≡◌, ℕ, zero, suc, ◌+◌, ◌<◌, ◌≤◌, ◌⊎◌, inl, inr, Bool, true, false, List, [], ◌∷◌, length, slice_index, None, Some, refl, sym, ◌∙◌, ap, subst, arith}
use Rattle.std.proofs.lemmas.Bool.{cases_lt, cases_eq, cases_Bool, false≢true}
use Rattle.std.proofs.lemmas.List.{get_or_past}
use Rattle.std.specs.Prelude.{codes, if◌then◌else◌}
use Rattle.std.specs.Char.{is_ascii_whitespace}
use Rattle.template_compiler_syntax.specs.declared.StartMarker.{StartMarker}
use Rattle.template_compiler_syntax.specs.declared.StartMarker.TheVariants.{Variable, Block, Comment, LineStatement, LineComment}
use Rattle.template_compiler_syntax.specs.Syntax.{Syntax, IsSet, start_text}
use Rattle.template_compiler_tokens.specs.Token.{Token, TokenFault, bad}
use Rattle.template_compiler_tokens.specs.Lexical.{IsToken}
use Rattle.template_compiler_syntax.specs.Places.{StandsAt, IsFirst, IsLineEnd, newline_len, is_first_on_line}
use Rattle.template_compiler_syntax.specs.declared.edges.Trim.{Trim}
use Rattle.template_compiler_syntax.specs.Segments.{IsEligible, HasStart, IsNextStart, HasNoStart, inside_from, IsEnd, bare_end, signed_end, EndsAt, print_end, block_end, line_end, IsOver, open_brackets, is_bad, Ending, HasInside, ended, blank, token, no_token, HoldsInside, only, IsRawEnd, IsCommentEnd, Piece, IsSegment, print_segment, block_segment, raw_segment, comment_segment, line_statement_segment, line_comment_segment, IsEndless, endless_print, endless_block, endless_line_statement, endless_raw, endless_comment, HasPieces, no_start, next_start, endless_start}
use Rattle.template_compiler_syntax.proofs.One.{HasOneToken, one_inside}
use Rattle.template_compiler_syntax.proofs.Some.{Settled, settle_texts, settle_only, settle_set, first_within, first_below, settle_stands, stands_below, settle_line_end, settle_over, set_long}

-- at each place stands a token, or what is none
abbrev pub HasSomeToken : Type 0
HasSomeToken = (s : List ℕ) (i : ℕ) → (t : Token) × (n : ℕ) × IsToken s i t n

-- a token takes a byte at least
abbrev pub TakesBytes : Type 0
TakesBytes = (s : List ℕ) (i n : ℕ) (t : Token) → IsToken s i t n → is_bad t ≡ false → (i < n) × (i < length s)

bad_fault : (t : Token) → is_bad t ≡ true → (fault : TokenFault) × (t ≡ bad fault)
bad_fault (bad fault) e = (fault, refl)
bad_fault t e = absurd (false≢true e)

pub white_within : (s : List ℕ) (i : ℕ) → is_ascii_whitespace (slice_index s i) ≡ true → i < length s
white_within s i white =
    elim (cases_lt i (length s)) [
      | inl within ↦ within
      | inr past ↦ absurd (false≢true (ap is_ascii_whitespace (sym (get_or_past s i 0 past)) ∙ white))
    ]

-- what stands in a segment from a place on
abbrev pub Inside : Syntax → List ℕ → StartMarker → ℕ → ℕ → Type 0
Inside x s k d i = (tokens : List Token) × (ending : Ending) × HasInside x s k d i tokens ending

over_here : (x : Syntax) (s : List ℕ) (k : StartMarker) (d i : ℕ) →
    ((d ≡ 0) × IsOver x s k i) ⊎ (d ≡ 0 → IsOver x s k i → ⊥)
over_here x s k d i =
    elim (cases_eq d 0) [
      | inr bracket ↦ inr (λ closed over. bracket closed)
      | inl closed ↦ elim (settle_over x s k i) [
        | inl over ↦ inl (closed, over)
        | inr none ↦ inr (λ e over. none over)
      ]
    ]

line_comment_next : (s : List ℕ) (i from end : ℕ) (t : Bool) → from ≤ end →
    from ≤ (if t then end + newline_len s end else end)
line_comment_next s i from end true low = omega arith
line_comment_next s i from end false low = low

line_end_somewhere : (s : List ℕ) (from : ℕ) → ((j : ℕ) → from ≤ j → j < from + (length s + 1) → IsLineEnd s j → ⊥) → ⊥
line_end_somewhere s from none = none (from + length s) (omega arith) (omega arith) (inr (omega arith))

module _ (one : HasOneToken) (some : HasSomeToken) (takes : TakesBytes) where
  inside_step : (x : Syntax) (s : List ℕ) (k : StartMarker) (d i : ℕ) →
      ((d' i' : ℕ) → i < i' → i < length s → Inside x s k d' i') → Inside x s k d i
  inside_step x s k d i later =
      elim (over_here x s k d i) [
        | inl over ↦
            let P : ℕ → Type 0 = λ n. HasInside x s k n i [] (Some (over.1.0, over.1.1)) in
            ([], Some (over.1.0, over.1.1), subst P (sym (over.0)) (ended (over.1.2)))
        | inr none ↦ elim (cases_Bool (is_ascii_whitespace (slice_index s i))) [
          | inl white ↦
              let rest = later d (suc i) (omega arith) (white_within s i white) in
              (rest.0, rest.1, blank none white (rest.2))
          | inr black ↦
              let t = some s i in
              elim (cases_Bool (is_bad (t.0))) [
                | inl bad_t ↦
                    let fault = bad_fault (t.0) bad_t in
                    (bad (fault.0) ∷ [], None, no_token none black (subst (λ u. IsToken s i u (t.1)) (fault.1) (t.2)))
                | inr good ↦
                    let bounds = takes s i (t.1) (t.0) (t.2) good in
                    let rest = later (open_brackets (t.0) d) (t.1) (bounds.0) (bounds.1) in
                    (t.0 ∷ rest.0, rest.1, token none black (t.2) good (rest.2))
              ]
        ]
      ]

  inside_by : (x : Syntax) (s : List ℕ) (k : StartMarker) (n d i : ℕ) → length s ≤ i + n → Inside x s k d i
  inside_by x s k zero d i bound = inside_step x s k d i (λ d' i' ahead within. absurd (omega arith))
  inside_by x s k (suc n) d i bound = inside_step x s k d i (λ d' i' ahead within. inside_by x s k n d' i' (omega arith))

  pub some_inside : (x : Syntax) (s : List ℕ) (k : StartMarker) (d i : ℕ) → Inside x s k d i
  some_inside x s k d i = inside_by x s k (length s) d i (omega arith)

  end_ahead : {s end : List ℕ} {i next : ℕ} {last : Trim} → IsEnd s end i last next → i ≤ next
  end_ahead (bare_end stands n) = omega arith
  end_ahead (signed_end none stands l sign n) = omega arith

  over_ahead : {x : Syntax} {s : List ℕ} {k : StartMarker} {i next : ℕ} {last : Trim} → EndsAt x s k i last next → i ≤ next
  over_ahead (print_end black end) = end_ahead end
  over_ahead (block_end black end) = end_ahead end
  over_ahead (line_end over n) = omega arith

  next_of : Ending → ℕ → ℕ
  next_of None i = i
  next_of (Some p) i = p.1

  inside_ahead : {x : Syntax} {s : List ℕ} {k : StartMarker} {d i : ℕ} {tokens : List Token} {ending : Ending} →
      HasInside x s k d i tokens ending → i ≤ next_of ending i
  unfolding next_of
  inside_ahead (ended over) = over_ahead over
  inside_ahead {ending = None} (blank none white rest) = omega arith
  inside_ahead {ending = Some p} (blank none white rest) = (let ahead = inside_ahead rest in omega arith)
  inside_ahead {ending = None} (token none black t good rest) = omega arith
  inside_ahead {s = s} {i = i} {ending = Some p} (token {n = n} {t = u} none black t good rest) =
      let ahead = inside_ahead rest in
      let bounds = takes s i n u t good in omega arith
  inside_ahead (no_token none black t) = omega arith

  pub ends_ahead : {x : Syntax} {s : List ℕ} {k : StartMarker} {d i next : ℕ} {tokens : List Token} {last : Trim} →
      HasInside x s k d i tokens (Some (last, next)) → i ≤ next
  unfolding next_of
  ends_ahead h = inside_ahead h

  settle_raw_end : (x : Syntax) (s : List ℕ) (i : ℕ) → Settled (IsRawEnd x s i)
  settle_raw_end x s i =
      elim (settle_stands s i (x.block_start)) [
        | inr none ↦ inr (λ h. none (h.0))
        | inl stands ↦ raw_inside (some_inside x s Block 0 (inside_from x s Block i)) stands
      ]
    where
      raw_inside : Inside x s Block 0 (inside_from x s Block i) → StandsAt s i (x.block_start) → Settled (IsRawEnd x s i)
      raw_inside inside stands = raw_ending (inside.0) (inside.1) (inside.2)
        where
          raw_ending : (tokens : List Token) (ending : Ending) → HoldsInside x s Block i tokens ending → Settled (IsRawEnd x s i)
          raw_ending tokens None h = inr (λ e. (let same = (one_inside one h (e.1.2)).1 in cc))
          raw_ending tokens (Some p) h =
              elim (settle_only tokens (codes "endraw")) [
                | inl word ↦
                    let P : List Token → Type 0 = λ ts. HoldsInside x s Block i ts (Some p) in
                    inl (stands, (p.0, p.1, subst P word h))
                | inr other ↦ inr (λ e. other ((one_inside one h (e.1.2)).0))
              ]

  raw_end_below : (x : Syntax) (s : List ℕ) → IsSet (x.block_start) → (i : ℕ) → IsRawEnd x s i → i < length s
  raw_end_below x s set i h = stands_below s i (x.block_start) set (h.0)

  -- a segment of the kind that begins at the place, or what never ends; behind it, the text is shorter
  abbrev pub Begun : Syntax → List ℕ → ℕ → StartMarker → Type 0
  Begun x s i k =
      ((piece : Piece) × (next : ℕ) × (i + length (start_text x k) ≤ next) × IsSegment x s i k piece next) ⊎
      ((tokens : List Token) × IsEndless x s i k tokens)

  begun_print : (x : Syntax) (s : List ℕ) (i : ℕ) (tokens : List Token) (ending : Ending) →
      HoldsInside x s Variable i tokens ending → Begun x s i Variable
  unfolding next_of
  begun_print x s i tokens None h = inr (_, endless_print h)
  begun_print x s i tokens (Some p) h = inl (_, _, (let ahead = inside_ahead h in omega arith), print_segment h)

  begun_line_statement : (x : Syntax) (s : List ℕ) (i : ℕ) (tokens : List Token) (ending : Ending) →
      HoldsInside x s LineStatement i tokens ending → Begun x s i LineStatement
  unfolding next_of
  begun_line_statement x s i tokens None h = inr (_, endless_line_statement h)
  begun_line_statement x s i tokens (Some p) h = inl (_, _, (let ahead = inside_ahead h in omega arith), line_statement_segment h)

  begun_raw : (x : Syntax) (s : List ℕ) (i : ℕ) (p : Trim × ℕ) → IsSet (x.block_start) →
      HoldsInside x s Block i (only (codes "raw")) (Some p) → Begun x s i Block
  unfolding next_of
  begun_raw x s i p set h =
      elim (first_below (IsRawEnd x s) (settle_raw_end x s) (p.1) (length s) (raw_end_below x s set)) [
        | inr none ↦ inr (_, endless_raw h none)
        | inl first ↦
            let ahead = inside_ahead h in
            let end = first.1.here.1 in
            let low = first.1.ahead in
            let behind = inside_ahead (end.2) in
            inl (_, _, omega arith, raw_segment h (first.1) (end.2))
      ]

  begun_block : (x : Syntax) (s : List ℕ) (i : ℕ) (tokens : List Token) (ending : Ending) → IsSet (x.block_start) →
      HoldsInside x s Block i tokens ending → Begun x s i Block
  unfolding next_of
  begun_block x s i tokens None set h = inr (_, endless_block h)
  begun_block x s i tokens (Some p) set h =
      elim (settle_only tokens (codes "raw")) [
        | inr other ↦ inl (_, _, (let ahead = inside_ahead h in omega arith), block_segment h other)
        | inl word ↦
            let P : List Token → Type 0 = λ ts. HoldsInside x s Block i ts (Some p) in
            begun_raw x s i p set (subst P word h)
      ]

  begun_comment_at : (x : Syntax) (s : List ℕ) (i end : ℕ) → IsFirst (IsCommentEnd x s) (inside_from x s Comment i) end → Begun x s i Comment
  begun_comment_at x s i end first = inl (_, _, (let low = first.ahead in omega arith), comment_segment first refl refl)

  begun_comment_set : (x : Syntax) (s : List ℕ) (i : ℕ) → IsSet (x.comment_end) → Begun x s i Comment
  begun_comment_set x s i set =
      elim (first_below (IsCommentEnd x s) (λ j. settle_stands s j (x.comment_end)) (inside_from x s Comment i) (length s)
      (λ j here. stands_below s j (x.comment_end) set here)) [
        | inl first ↦ begun_comment_at x s i (first.0) (first.1)
        | inr none ↦ inr (_, endless_comment none)
      ]

  begun_comment : (x : Syntax) (s : List ℕ) (i : ℕ) → Begun x s i Comment
  begun_comment x s i =
      elim (settle_texts (x.comment_end) []) [
        | inr set ↦ begun_comment_set x s i set
        | inl empty ↦
            let P : List ℕ → Type 0 = λ t. StandsAt s (inside_from x s Comment i) t in
            begun_comment_at x s i (inside_from x s Comment i) (record {
              ahead = omega arith;
              here = subst P (sym empty) refl;
              before = λ j low high. absurd (omega arith);
            })
      ]

  begun_line_comment : (x : Syntax) (s : List ℕ) (i : ℕ) → Begun x s i LineComment
  begun_line_comment x s i =
      let from = inside_from x s LineComment i in
      elim (first_within (IsLineEnd s) (settle_line_end s) from (length s + 1)) [
        | inl first ↦
            let low = line_comment_next s i from (first.0) (is_first_on_line s i) (first.1.ahead) in
            inl (_, (if is_first_on_line s i then first.0 + newline_len s (first.0) else first.0), omega arith, line_comment_segment (first.1) refl)
        | inr none ↦ absurd (line_end_somewhere s from none)
      ]

  pub begun : (x : Syntax) (s : List ℕ) (i : ℕ) (k : StartMarker) → HasStart x s i k → Begun x s i k
  begun x s i Variable here =
      let h = some_inside x s Variable 0 (inside_from x s Variable i) in begun_print x s i (h.0) (h.1) (h.2)
  begun x s i Block here =
      let h = some_inside x s Block 0 (inside_from x s Block i) in begun_block x s i (h.0) (h.1) (here.is_set) (h.2)
  begun x s i Comment here = begun_comment x s i
  begun x s i LineStatement here =
      let h = some_inside x s LineStatement 0 (inside_from x s LineStatement i) in begun_line_statement x s i (h.0) (h.1) (h.2)
  begun x s i LineComment here = begun_line_comment x s i

settle_eligible : (k : StartMarker) (s : List ℕ) (i : ℕ) → Settled (IsEligible k s i)
settle_eligible LineStatement s i =
    elim (cases_Bool (is_first_on_line s i)) [ inl first ↦ inl first | inr other ↦ inr (λ first. false≢true (sym other ∙ first)) ]
settle_eligible Variable s i = inl tt
settle_eligible Block s i = inl tt
settle_eligible Comment s i = inl tt
settle_eligible LineComment s i = inl tt

pub settle_start : (x : Syntax) (s : List ℕ) (i : ℕ) (k : StartMarker) → Settled (HasStart x s i k)
settle_start x s i k =
    elim (settle_set (start_text x k)) [
      | inr none ↦ inr (λ h. none (h.is_set))
      | inl set ↦ elim (settle_stands s i (start_text x k)) [
        | inr none ↦ inr (λ h. none (h.stands))
        | inl stands ↦ elim (settle_eligible k s i) [
          | inr none ↦ inr (λ h. none (h.eligible))
          | inl eligible ↦ inl (record { is_set = set; stands = stands; eligible = eligible })
        ]
      ]
    ]

-- a start marker stands at the place
abbrev pub AnyStart : Syntax → List ℕ → ℕ → Type 0
AnyStart x s i = (k : StartMarker) × HasStart x s i k

-- the longer of a start and another one, if that stands there
Better : Syntax → List ℕ → ℕ → StartMarker → StartMarker → Type 0
Better x s i k l =
    (m : StartMarker) × HasStart x s i m × (length (start_text x k) ≤ length (start_text x m)) ×
    (HasStart x s i l → length (start_text x l) ≤ length (start_text x m))

better : (x : Syntax) (s : List ℕ) (i : ℕ) (k : StartMarker) → HasStart x s i k → (l : StartMarker) → Better x s i k l
unfolding Better
better x s i k here l =
    elim (settle_start x s i l) [
      | inr none ↦ (k, here, omega arith, λ h. absurd (none h))
      | inl there ↦ elim (cases_lt (length (start_text x k)) (length (start_text x l))) [
        | inl longer ↦ (l, there, omega arith, λ h. omega arith)
        | inr shorter ↦ (k, here, omega arith, λ h. shorter)
      ]
    ]

-- the longest of the starts that stand at the place
longest_start : (x : Syntax) (s : List ℕ) (i : ℕ) → AnyStart x s i →
    (k : StartMarker) × HasStart x s i k × ((l : StartMarker) → HasStart x s i l → length (start_text x l) ≤ length (start_text x k))
unfolding Better
longest_start x s i any =
    let a = better x s i (any.0) (any.1) Variable in
    let b = better x s i (a.0) (a.1) Block in
    let c = better x s i (b.0) (b.1) Comment in
    let d = better x s i (c.0) (c.1) LineStatement in
    let e = better x s i (d.0) (d.1) LineComment in (
      e.0,
      e.1,
      most (length (start_text x (e.0)))
          (λ h. (let p = a.3 h in let q = b.2 in let r = c.2 in let t = d.2 in let u = e.2 in omega arith))
          (λ h. (let q = b.3 h in let r = c.2 in let t = d.2 in let u = e.2 in omega arith))
          (λ h. (let r = c.3 h in let t = d.2 in let u = e.2 in omega arith))
          (λ h. (let t = d.3 h in let u = e.2 in omega arith))
          (e.3),
    )
  where
    AtMost : ℕ → StartMarker → Type 0
    AtMost n l = HasStart x s i l → length (start_text x l) ≤ n

    most : (n : ℕ) → AtMost n Variable → AtMost n Block → AtMost n Comment → AtMost n LineStatement → AtMost n LineComment →
        (l : StartMarker) → AtMost n l
    most n a b c d e Variable = a
    most n a b c d e Block = b
    most n a b c d e Comment = c
    most n a b c d e LineStatement = d
    most n a b c d e LineComment = e

settle_any : (x : Syntax) (s : List ℕ) (i : ℕ) → Settled (AnyStart x s i)
settle_any x s i =
    elim (settle_start x s i Variable) [
      | inl here ↦ inl (Variable, here)
      | inr a ↦ elim (settle_start x s i Block) [
        | inl here ↦ inl (Block, here)
        | inr b ↦ elim (settle_start x s i Comment) [
          | inl here ↦ inl (Comment, here)
          | inr c ↦ elim (settle_start x s i LineStatement) [
            | inl here ↦ inl (LineStatement, here)
            | inr d ↦ elim (settle_start x s i LineComment) [
              | inl here ↦ inl (LineComment, here)
              | inr e ↦ inr (λ any. none a b c d e (any.0) (any.1))
            ]
          ]
        ]
      ]
    ]
  where
    none : (HasStart x s i Variable → ⊥) → (HasStart x s i Block → ⊥) → (HasStart x s i Comment → ⊥) →
        (HasStart x s i LineStatement → ⊥) → (HasStart x s i LineComment → ⊥) → (k : StartMarker) → HasStart x s i k → ⊥
    none a b c d e Variable = a
    none a b c d e Block = b
    none a b c d e Comment = c
    none a b c d e LineStatement = d
    none a b c d e LineComment = e

any_below : (x : Syntax) (s : List ℕ) (i : ℕ) → AnyStart x s i → i < length s
any_below x s i any = stands_below s i (start_text x (any.0)) (any.1.is_set) (any.1.stands)

-- the next start marker from a place on, or none
pub some_start : (x : Syntax) (s : List ℕ) (from : ℕ) →
    ((i : ℕ) × (k : StartMarker) × IsNextStart x s from i k) ⊎ HasNoStart x s from
some_start x s from =
    elim (first_below (AnyStart x s) (settle_any x s) from (length s) (any_below x s)) [
      | inr none ↦ inr (λ i low k here. none i low (k, here))
      | inl first ↦
          let best = longest_start x s (first.0) (first.1.here) in
          inl (
            first.0,
            best.0,
            record {
              ahead = first.1.ahead;
              here = best.1;
              longest = best.2;
              leftmost = λ j low high l there. first.1.before j low high (l, there);
            },
          )
    ]

start_long : (x : Syntax) (s : List ℕ) (i : ℕ) (k : StartMarker) → HasStart x s i k → (0 < length (start_text x k)) × (i < length s)
start_long x s i k here = (set_long (start_text x k) (here.is_set), stands_below s i (start_text x k) (here.is_set) (here.stands))

module _ (one : HasOneToken) (some : HasSomeToken) (takes : TakesBytes) where
  pieces_by : (x : Syntax) (s : List ℕ) (n from : ℕ) → length s ≤ from + n → (pieces : List Piece) × HasPieces x s from pieces
  pieces_by x s zero from bound =
      elim (some_start x s from) [
        | inr none ↦ (_, no_start none)
        | inl next ↦
            let start = next.2 in
            let within = start_long x s (next.0) (next.1) (start.here) in
            let low = start.ahead in absurd (omega arith)
      ]
  pieces_by x s (suc n) from bound =
      elim (some_start x s from) [
        | inr none ↦ (_, no_start none)
        | inl next ↦
            let start = next.2 in
            let within = start_long x s (next.0) (next.1) (start.here) in
            let low = start.ahead in
            elim (begun one some takes x s (next.0) (next.1) (start.here)) [
              | inr endless ↦ (_, endless_start start (endless.1))
              | inl part ↦
                  let ahead = part.2 in
                  let rest = pieces_by x s n (part.1) (omega arith) in
                  (_, next_start start (part.3) (rest.1))
            ]
      ]

  pub some_list : (x : Syntax) (s : List ℕ) (from : ℕ) → (pieces : List Piece) × HasPieces x s from pieces
  some_list x s from = pieces_by x s (length s) from (omega arith)
