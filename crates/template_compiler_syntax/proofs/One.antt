-- A source has no two lists of pieces.
use Rattle.std.proofs.Common.{◌≡◌, ℕ, suc, ◌+◌, ◌≤◌, inl, inr, true, false, List, length, take, drop, slice_index, None, Some, refl, sym, ◌∙◌, ap, subst, arith}
use Rattle.std.proofs.lemmas.Bool.{cases_order, false≢true}
use Rattle.std.specs.Prelude.{codes, if◌then◌else◌}
use Rattle.std.specs.Char.{is_ascii_whitespace}
use Rattle.template_compiler_syntax.specs.declared.StartMarker.{StartMarker}
use Rattle.template_compiler_syntax.specs.declared.StartMarker.TheVariants.{Block, Comment, LineComment}
use Rattle.template_compiler_syntax.specs.Syntax.{Syntax, IsUsable, start_text}
use Rattle.template_compiler_tokens.specs.Token.{Token, TokenFault, bad}
use Rattle.template_compiler_tokens.specs.Lexical.{IsToken}
use Rattle.template_compiler_syntax.specs.Places.{StandsAt, IsFirst, IsLineEnd, newline_len, is_first_on_line}
use Rattle.template_compiler_syntax.specs.declared.edges.Trim.{Trim}
use Rattle.template_compiler_syntax.specs.declared.edges.Trim.TheVariants.{Plain}
use Rattle.template_compiler_syntax.specs.Segments.{HasStart, IsNextStart, HasNoStart, inside_from, IsEnd, bare_end, signed_end, EndsAt, print_end, block_end, line_end, IsOver, is_bad, Ending, HasInside, ended, blank, token, no_token, HoldsInside, only, IsRawEnd, comment_sign, IsCommentEnd, Piece, IsSegment, print_segment, block_segment, raw_segment, comment_segment, line_statement_segment, line_comment_segment, IsEndless, endless_print, endless_block, endless_line_statement, endless_raw, endless_comment, HasPieces, no_start, next_start, endless_start}

-- at a place stands one token, with one end
abbrev pub HasOneToken : Type 0
HasOneToken = (s : List ℕ) (i : ℕ) (t u : Token) (n m : ℕ) → IsToken s i t n → IsToken s i u m → (t ≡ u) × (n ≡ m)

pub one_first : (P : ℕ → Type 0) (from i j : ℕ) → IsFirst P from i → IsFirst P from j → i ≡ j
one_first P from i j first second =
    elim (cases_order i j) [
      | inl same ↦ same
      | inr other ↦ elim other [
        | inl before ↦ absurd (second.before i first.ahead before first.here)
        | inr behind ↦ absurd (first.before j second.ahead behind second.here)
      ]
    ]

one_end : {s end : List ℕ} {i j next next' : ℕ} {last last' : Trim} → i ≡ j →
    IsEnd s end i last next → IsEnd s end j last' next' → (last ≡ last') × (next ≡ next')
one_end e (bare_end stands n) (bare_end stands' n') = (refl, cc)
one_end {s = s} {end = end} e (bare_end stands n) (signed_end none stands' l signed n') =
    absurd (none (subst (λ k. StandsAt s k end) e stands))
one_end {s = s} {end = end} e (signed_end none stands l signed n) (bare_end stands' n') =
    absurd (none (subst (λ k. StandsAt s k end) (sym e) stands'))
one_end e (signed_end none stands l signed n) (signed_end none' stands' l' signed' n') = (cc, cc)

pub one_over : {x : Syntax} {s : List ℕ} {k : StartMarker} {i j next next' : ℕ} {last last' : Trim} → i ≡ j →
    EndsAt x s k i last next → EndsAt x s k j last' next' → (last ≡ last') × (next ≡ next')
one_over e (print_end white end) (print_end white' end') = one_end e end end'
one_over e (block_end white end) (block_end white' end') = one_end e end end'
one_over e (line_end over n) (line_end over' n') = (refl, cc)

over_at : {x : Syntax} {s : List ℕ} {k : StartMarker} {i j next : ℕ} {last : Trim} → i ≡ j →
    EndsAt x s k i last next → IsOver x s k j
over_at {x = x} {s = s} {k = k} {next = next} {last = last} e over =
    (last, next, subst (λ n. EndsAt x s k n last next) e over)

white_apart : (s : List ℕ) {i j : ℕ} {a : Type 0} → i ≡ j →
    is_ascii_whitespace (slice_index s i) ≡ true → is_ascii_whitespace (slice_index s j) ≡ false → a
white_apart s e white none = absurd (false≢true (sym none ∙ (ap (λ k. is_ascii_whitespace (slice_index s k)) (sym e) ∙ white)))

bad_apart : {t : Token} {fault : TokenFault} {a : Type 0} → is_bad t ≡ false → t ≡ bad fault → a
bad_apart good e = absurd (false≢true (sym good ∙ ap is_bad e))

got : Ending → Trim × ℕ
got None = (Plain, 0)
got (Some ending) = ending

some_parts : {last last' : Trim} {next next' : ℕ} → ◌≡◌ {A = Ending} (Some (last, next)) (Some (last', next')) → (last ≡ last') × (next ≡ next')
unfolding got
some_parts e = (ap (λ o. (got o).0) e, ap (λ o. (got o).1) e)

none_some : {p : Trim × ℕ} → None ≡ Some p → ⊥
none_some e = cc

module _ (one : HasOneToken) where
  token_here : {s : List ℕ} {i j n m : ℕ} {t u : Token} → i ≡ j → IsToken s i t n → IsToken s j u m → (t ≡ u) × (n ≡ m)
  token_here {s = s} {i = i} {n = n} {m = m} {t = t} {u = u} e first second =
      one s i t u n m first (subst (λ k. IsToken s k u m) (sym e) second)

  one_inside_at : {x : Syntax} {s : List ℕ} {k : StartMarker} {d d' i j : ℕ} {ts ts' : List Token} {e e' : Ending} →
      d ≡ d' → i ≡ j → HasInside x s k d i ts e → HasInside x s k d' j ts' e' → (ts ≡ ts') × (e ≡ e')
  one_inside_at p q (ended over) (ended over') = (refl, (let same = one_over q over over' in cc))
  one_inside_at p q (ended over) (blank none white rest) = absurd (none (sym p) (over_at q over))
  one_inside_at p q (ended over) (token none white t good rest) = absurd (none (sym p) (over_at q over))
  one_inside_at p q (ended over) (no_token none white t) = absurd (none (sym p) (over_at q over))
  one_inside_at p q (blank none white rest) (ended over) = absurd (none p (over_at (sym q) over))
  one_inside_at p q (blank none white rest) (blank none' white' rest') = one_inside_at p (ap suc q) rest rest'
  one_inside_at {s = s} p q (blank none white rest) (token none' white' t good rest') = white_apart s q white white'
  one_inside_at {s = s} p q (blank none white rest) (no_token none' white' t) = white_apart s q white white'
  one_inside_at p q (token none white t good rest) (ended over) = absurd (none p (over_at (sym q) over))
  one_inside_at {s = s} p q (token none white t good rest) (blank none' white' rest') = white_apart s (sym q) white' white
  one_inside_at p q (token none white t good rest) (token none' white' t' good' rest') =
      let same = token_here q t t' in
      let tail = one_inside_at (let e = same.0 in cc) (same.1) rest rest' in
      (cc, tail.1)
  one_inside_at p q (token none white t good rest) (no_token none' white' t') = bad_apart good ((token_here q t t').0)
  one_inside_at p q (no_token none white t) (ended over) = absurd (none p (over_at (sym q) over))
  one_inside_at {s = s} p q (no_token none white t) (blank none' white' rest') = white_apart s (sym q) white' white
  one_inside_at p q (no_token none white t) (token none' white' t' good' rest') = bad_apart good' (sym ((token_here q t t').0))
  one_inside_at p q (no_token none white t) (no_token none' white' t') = (let same = token_here q t t' in (cc, refl))

  pub one_inside : {x : Syntax} {s : List ℕ} {k : StartMarker} {d i : ℕ} {ts ts' : List Token} {e e' : Ending} →
      HasInside x s k d i ts e → HasInside x s k d i ts' e' → (ts ≡ ts') × (e ≡ e')
  one_inside first second = one_inside_at refl refl first second

  one_raw : {x : Syntax} {s : List ℕ} {inner inner' : Trim} {from from' to to' : ℕ} {ending ending' : Ending} →
      ◌≡◌ {A = Ending} (Some (inner, from)) (Some (inner', from')) → IsFirst (IsRawEnd x s) from to → IsFirst (IsRawEnd x s) from' to' →
      HoldsInside x s Block to (only (codes "endraw")) ending → HoldsInside x s Block to' (only (codes "endraw")) ending' →
      (inner ≡ inner') × (from ≡ from') × (to ≡ to') × (ending ≡ ending')
  one_raw {x = x} {s = s} {from = from} {to = to} {to' = to'} e first first' end end' =
      let starts = (some_parts e).1 in
      let ends : to ≡ to' = one_first (IsRawEnd x s) from to to' first (subst (λ f. IsFirst (IsRawEnd x s) f to') (sym starts) first') in
      ((some_parts e).0, starts, ends, (one_inside_at refl (ap (λ j. inside_from x s Block j) ends) end end').1)

  one_segment : {x : Syntax} {s : List ℕ} {i next next' : ℕ} {k : StartMarker} {piece piece' : Piece} →
      IsSegment x s i k piece next → IsSegment x s i k piece' next' → (piece ≡ piece') × (next ≡ next')
  one_segment (print_segment inside) (print_segment inside') =
      let same = one_inside inside inside' in
      let words = same.0 in
      let parts = some_parts (same.1) in (cc, parts.1)
  one_segment (block_segment inside other) (block_segment inside' other') =
      let same = one_inside inside inside' in
      let words = same.0 in
      let parts = some_parts (same.1) in (cc, parts.1)
  one_segment (block_segment inside other) (raw_segment inside' first end) = absurd (other ((one_inside inside inside').0))
  one_segment (raw_segment inside first end) (block_segment inside' other) = absurd (other ((one_inside inside' inside).0))
  one_segment (raw_segment inside first end) (raw_segment inside' first' end') =
      let same = one_raw ((one_inside inside inside').1) first first' end end' in
      let parts = some_parts (same.3) in (cc, parts.1)
  one_segment {x = x} {s = s} {i = i} (comment_segment {end = end} first l n) (comment_segment {end = end'} first' l' n') =
      let same = one_first (IsCommentEnd x s) (inside_from x s Comment i) end end' first first' in
      let signs = l ∙ (ap (λ e. comment_sign s (inside_from x s Comment i) e) same ∙ sym l') in
      let nexts = n ∙ (ap (λ e. e + length (x.comment_end)) same ∙ sym n') in (cc, nexts)
  one_segment (line_statement_segment inside) (line_statement_segment inside') =
      let same = one_inside inside inside' in
      let words = same.0 in
      let parts = some_parts (same.1) in (cc, parts.1)
  one_segment {x = x} {s = s} {i = i} (line_comment_segment {end = end} first n) (line_comment_segment {end = end'} first' n') =
      let same = one_first (IsLineEnd s) (inside_from x s LineComment i) end end' first first' in
      let nexts = n ∙ (ap (λ e. if is_first_on_line s i then e + newline_len s e else e) same ∙ sym n') in (cc, nexts)

  endless_apart : {x : Syntax} {s : List ℕ} {i next : ℕ} {k : StartMarker} {piece : Piece} {tokens : List Token} →
      IsSegment x s i k piece next → IsEndless x s i k tokens → ⊥
  endless_apart (print_segment inside) (endless_print inside') = none_some ((one_inside inside' inside).1)
  endless_apart (block_segment inside other) (endless_block inside') = none_some ((one_inside inside' inside).1)
  endless_apart (block_segment inside other) (endless_raw inside' none) = other ((one_inside inside inside').0)
  endless_apart (raw_segment inside first end) (endless_block inside') = none_some ((one_inside inside' inside).1)
  endless_apart (raw_segment {to = to} inside first end) (endless_raw inside' none) =
      let starts = (some_parts ((one_inside inside' inside).1)).1 in
      none to (let ahead = first.ahead in omega arith) (first.here)
  endless_apart (line_comment_segment first n) endless = elim endless [ ]
  endless_apart (comment_segment {end = end} first l n) (endless_comment none) = none end (first.ahead) (first.here)
  endless_apart (line_statement_segment inside) (endless_line_statement inside') = none_some ((one_inside inside' inside).1)

  one_endless : {x : Syntax} {s : List ℕ} {i : ℕ} {k : StartMarker} {tokens tokens' : List Token} →
      IsEndless x s i k tokens → IsEndless x s i k tokens' → tokens ≡ tokens'
  one_endless (endless_print inside) (endless_print inside') = (let same = (one_inside inside inside').0 in cc)
  one_endless (endless_block inside) (endless_block inside') = (let same = (one_inside inside inside').0 in cc)
  one_endless (endless_line_statement inside) (endless_line_statement inside') = (let same = (one_inside inside inside').0 in cc)
  one_endless (endless_block inside) (endless_raw inside' none) = absurd (none_some ((one_inside inside inside').1))
  one_endless (endless_raw inside none) (endless_block inside') = absurd (none_some ((one_inside inside' inside).1))
  one_endless (endless_raw inside none) (endless_raw inside' none') = refl
  one_endless (endless_comment none) (endless_comment none') = refl

  start_at : {x : Syntax} {s : List ℕ} {i j : ℕ} {k : StartMarker} → i ≡ j → HasStart x s i k → HasStart x s j k
  start_at {x = x} {s = s} {k = k} e start = subst (λ n. HasStart x s n k) e start

  pub one_start : {x : Syntax} {s : List ℕ} {from i j : ℕ} {k l : StartMarker} → IsUsable x →
      IsNextStart x s from i k → IsNextStart x s from j l → (i ≡ j) × (k ≡ l)
  one_start {x = x} {s = s} {i = i} {j = j} {k = k} {l = l} usable first second =
      let place : i ≡ j = elim (cases_order i j) [
        | inl same ↦ same
        | inr other ↦ elim other [
          | inl before ↦ absurd (second.leftmost i (first.ahead) before k (first.here))
          | inr behind ↦ absurd (first.leftmost j (second.ahead) behind l (second.here))
        ]
      ] in
      let here = start_at (sym place) (second.here) in
      let most : length (start_text x l) ≤ length (start_text x k) = first.longest l here in
      let least : length (start_text x k) ≤ length (start_text x l) = second.longest k (start_at place (first.here)) in
      let long : length (start_text x k) ≡ length (start_text x l) = omega arith in
      let stands = first.here.stands in
      let texts : start_text x k ≡ start_text x l = sym stands ∙ (ap (λ n. take n (drop i s)) long ∙ here.stands) in
      (place, usable.apart k l (first.here.is_set) texts)

  segment_at : {x : Syntax} {s : List ℕ} {i j next : ℕ} {k l : StartMarker} {piece : Piece} → i ≡ j → k ≡ l →
      IsSegment x s i k piece next → IsSegment x s j l piece next
  segment_at {x = x} {s = s} {j = j} {next = next} {k = k} {piece = piece} place kind h =
      subst (λ m. IsSegment x s j m piece next) kind (subst (λ n. IsSegment x s n k piece next) place h)

  endless_at : {x : Syntax} {s : List ℕ} {i j : ℕ} {k l : StartMarker} {tokens : List Token} → i ≡ j → k ≡ l →
      IsEndless x s i k tokens → IsEndless x s j l tokens
  endless_at {x = x} {s = s} {j = j} {k = k} {tokens = tokens} place kind h =
      subst (λ m. IsEndless x s j m tokens) kind (subst (λ n. IsEndless x s n k tokens) place h)

  from_at : {x : Syntax} {s : List ℕ} {f g i : ℕ} {k : StartMarker} → f ≡ g → IsNextStart x s f i k → IsNextStart x s g i k
  from_at {x = x} {s = s} {i = i} {k = k} e h = subst (λ n. IsNextStart x s n i k) e h

  none_at : {x : Syntax} {s : List ℕ} {f g i : ℕ} {k : StartMarker} {a : Type 0} → f ≡ g → HasNoStart x s f → IsNextStart x s g i k → a
  none_at {i = i} {k = k} e none next = absurd (none i (let ahead = next.ahead in omega arith) k (next.here))

  one_list_at : {x : Syntax} {s : List ℕ} {f g : ℕ} {ps qs : List Piece} → IsUsable x → f ≡ g →
      HasPieces x s f ps → HasPieces x s g qs → ps ≡ qs
  one_list_at usable e (no_start none) (no_start none') = cc
  one_list_at usable e (no_start none) (next_start next part rest) = none_at e none next
  one_list_at usable e (no_start none) (endless_start next endless) = none_at e none next
  one_list_at usable e (next_start next part rest) (no_start none) = none_at (sym e) none next
  one_list_at usable e (next_start next part rest) (next_start next' part' rest') =
      let same = one_start usable (from_at e next) next' in
      let place = same.0 in
      let kind = same.1 in
      let pieces = one_segment part (segment_at (sym (same.0)) (sym (same.1)) part') in
      let piece = pieces.0 in
      let tail = one_list_at usable (pieces.1) rest rest' in cc
  one_list_at usable e (next_start next part rest) (endless_start next' endless) =
      let same = one_start usable (from_at e next) next' in
      absurd (endless_apart part (endless_at (sym (same.0)) (sym (same.1)) endless))
  one_list_at usable e (endless_start next endless) (no_start none) = none_at (sym e) none next
  one_list_at usable e (endless_start next endless) (next_start next' part rest) =
      let same = one_start usable (from_at e next) next' in
      absurd (endless_apart part (endless_at (same.0) (same.1) endless))
  one_list_at usable e (endless_start next endless) (endless_start next' endless') =
      let same = one_start usable (from_at e next) next' in
      let place = same.0 in
      let kind = same.1 in
      let tokens = one_endless endless (endless_at (sym (same.0)) (sym (same.1)) endless') in cc

  pub one_list : {x : Syntax} {s : List ℕ} {from : ℕ} {ps qs : List Piece} → IsUsable x →
      HasPieces x s from ps → HasPieces x s from qs → ps ≡ qs
  one_list usable first second = one_list_at usable refl first second
