-- What is left of data between two places.
use Rattle.std.proofs.Common.{◌≡◌, ℕ, zero, suc, ◌+◌, ◌-◌, ◌<◌, ◌≤◌, inl, inr, Bool, true, false, List, [], ◌∷◌, length, take, drop, slice_index, refl, sym, ◌∙◌, ap, subst, arith, length-take, length-drop, get_or-drop}
use Rattle.std.proofs.lemmas.Bool.{cases_lt, false≢true, eqb-true, or_cases}
use Rattle.std.proofs.lemmas.List.{get_or-take, take-take, drop-take, drop-drop, drop_all}
use Rattle.std.proofs.lemmas.Str.{IsCharBoundary-start, IsCharBoundary-end, IsCharBoundary-before_ascii, IsCharBoundary-after_ascii}
use Rattle.std.specs.Prelude.{if◌then◌else◌, ◌==◌, ◌&&◌}
use Rattle.std.specs.Str.{IsUtf8, IsCharBoundary, trim_end}
use Rattle.template_compiler_syntax.specs.declared.StartMarker.TheVariants.{Variable, Block, Comment, LineStatement, LineComment}
use Rattle.template_compiler_syntax.specs.Syntax.{Syntax}
use Rattle.template_compiler_syntax.specs.declared.edges.Edge.{Edge}
use Rattle.template_compiler_syntax.specs.declared.edges.Edge.TheVariants.{Nothing, Beside}
use Rattle.template_compiler_syntax.specs.declared.edges.Trim.TheVariants.{Plain, Minus, Plus}
use Rattle.template_compiler_syntax.specs.Places.{stretch, is_blank, blanks_from, is_first_on_line, newline_len}
use Rattle.template_compiler_syntax.specs.Stripping.{stripped_from, stripped_to, past_newline, less_start, less_blanks, strips_blanks, is_minus}
use Rattle.template_compiler_syntax.proofs.Searches.{newline_at}

pub tail_of : (t r : List ℕ) (n : ℕ) → r ≡ drop n t → r ≡ drop (length t - length r) t
tail_of t r n e =
    elim (cases_lt (length t) n) [
      | inl past ↦
          let none : drop n t ≡ [] = drop_all n t (omega arith) in
          let empty : length r ≡ 0 = ap length (e ∙ none) in
          let all : drop (length t - length r) t ≡ [] = drop_all (length t - length r) t (omega arith) in
          e ∙ (none ∙ sym all)
      | inr within ↦
          let place : n ≡ length t - length r = omega (arith, ap length e, length-drop n t) in
          e ∙ ap (λ k. drop k t) place
    ]

pub newline_within : (t : List ℕ) → newline_len t 0 ≤ length t
newline_within t =
    elim (cases_lt (length t) (newline_len t 0)) [
      | inr within ↦ within
      | inl past ↦ absurd (elim (newline_at t 0 (omega arith)) [
        | inl feed ↦ small t feed past
        | inr both ↦ large t (both.0) (both.1) past
      ])
    ]
  where
    small : (t : List ℕ) → slice_index t 0 ≡ 10 → length t < newline_len t 0 → ⊥
    small [] e past = omega arith
    small (b ∷ t) e past = (let one : newline_len (b ∷ t) 0 ≡ 1 = rw e refl in omega arith)

    large : (t : List ℕ) → slice_index t 0 ≡ 13 → slice_index t 1 ≡ 10 → length t < newline_len t 0 → ⊥
    large [] e f past = omega arith
    large (b ∷ []) e f past = omega arith
    large (b ∷ c ∷ t) e f past = (let two : newline_len (b ∷ c ∷ t) 0 ≡ 2 = rw (e, f) refl in omega arith)

newline_width : ℕ → ℕ → ℕ
newline_width a b = if a == 10 then 1 else if a == 13 && b == 10 then 2 else 0

one_long : (a b : ℕ) → a ≡ 10 → newline_width a b ≡ 1
unfolding newline_width
one_long a b e = rw e refl

two_long : (a b : ℕ) → a ≡ 13 → b ≡ 10 → newline_width a b ≡ 2
unfolding newline_width
two_long a b e f = rw (e, f) refl

pub newline_cut : (t : List ℕ) → IsUtf8 t → IsCharBoundary t (newline_len t 0)
unfolding newline_width
newline_cut t text =
    elim (cases_lt 0 (newline_len t 0)) [
      | inr none ↦ subst (λ n. IsCharBoundary t n) (let e : 0 ≡ newline_len t 0 = omega arith in e) (IsCharBoundary-start t text)
      | inl some ↦ elim (newline_at t 0 some) [
        | inl feed ↦
            let one : newline_len t 0 ≡ 1 = one_long (slice_index t 0) (slice_index t 1) feed in
            let long = newline_within t in
            subst (λ n. IsCharBoundary t n) (sym one) (IsCharBoundary-after_ascii t 0 text (omega arith) (omega arith))
        | inr both ↦
            let two : newline_len t 0 ≡ 2 = two_long (slice_index t 0) (slice_index t 1) (both.0) (both.1) in
            let long = newline_within t in
            let second = both.1 in
            subst (λ n. IsCharBoundary t n) (sym two) (IsCharBoundary-after_ascii t 1 text (omega arith) (omega arith))
      ]
    ]

length-stretch : (s : List ℕ) (from to : ℕ) → from ≤ to → to ≤ length s → length (stretch s from to) ≡ to - from
length-stretch s from to low high = omega (arith, length-take (to - from) (drop from s), length-drop from s)

plain_from : (s : List ℕ) (from to : ℕ) → from ≤ to → to ≤ length s → from ≡ to - length (stretch s from to)
plain_from s from to low high = omega (arith, length-stretch s from to low high)

newline_from : (s : List ℕ) (from to : ℕ) (trim : Bool) → from ≤ to → to ≤ length s →
    (if trim then past_newline s from to else from) ≡
    to - length (if trim then drop (newline_len (stretch s from to) 0) (stretch s from to) else stretch s from to)
newline_from s from to true low high =
    omega (
      arith,
      length-stretch s from to low high,
      newline_within (stretch s from to),
      length-drop (newline_len (stretch s from to) 0) (stretch s from to),
    )
newline_from s from to false low high = plain_from s from to low high

-- where data begins, from what is left of it
from_length : (x : Syntax) (s : List ℕ) (left : Edge) (from to : ℕ) → from ≤ to → to ≤ length s →
    stripped_from x s left from to ≡ to - length (less_start x left (stretch s from to))
from_length x s Nothing from to low high = plain_from s from to low high
from_length x s (Beside k Minus) from to low high = refl
from_length x s (Beside k Plus) from to low high = plain_from s from to low high
from_length x s (Beside Block Plain) from to low high = newline_from s from to (x.trim_blocks) low high
from_length x s (Beside Comment Plain) from to low high = newline_from s from to (x.trim_blocks) low high
from_length x s (Beside Variable Plain) from to low high = plain_from s from to low high
from_length x s (Beside LineStatement Plain) from to low high = plain_from s from to low high
from_length x s (Beside LineComment Plain) from to low high = plain_from s from to low high

pub blanks_le : (s : List ℕ) (n : ℕ) → blanks_from s n ≤ n
unfolding blanks_from
blanks_le s zero = omega arith
blanks_le s (suc i) = step (is_blank (slice_index s i)) (blanks_le s i)
  where
    step : (t : Bool) → blanks_from s i ≤ i → (if t then blanks_from s i else suc i) ≤ suc i
    step true low = omega arith
    step false low = omega arith

pub less_blanks_le : (s : List ℕ) (i : ℕ) → less_blanks s i ≤ i
less_blanks_le s i = step (is_first_on_line s i) (blanks_le s i)
  where
    step : (t : Bool) → blanks_from s i ≤ i → (if t then blanks_from s i else i) ≤ i
    step true low = low
    step false low = omega arith

blanks_blank : (s : List ℕ) (n : ℕ) → blanks_from s n < n → is_blank (slice_index s (blanks_from s n)) ≡ true
unfolding blanks_from
blanks_blank s zero below = absurd (omega arith)
blanks_blank s (suc i) below = step (is_blank (slice_index s i)) refl (λ before. blanks_blank s i before) below
  where
    here : (blanks_from s i < i → is_blank (slice_index s (blanks_from s i)) ≡ true) → is_blank (slice_index s i) ≡ true →
        is_blank (slice_index s (blanks_from s i)) ≡ true
    here deeper blank =
        elim (cases_lt (blanks_from s i) i) [
          | inl before ↦ deeper before
          | inr at ↦ (let low = blanks_le s i in let e : blanks_from s i ≡ i = omega arith in ap (λ m. is_blank (slice_index s m)) e ∙ blank)
        ]

    step : (t : Bool) → is_blank (slice_index s i) ≡ t → (blanks_from s i < i → is_blank (slice_index s (blanks_from s i)) ≡ true) →
        (if t then blanks_from s i else suc i) < suc i → is_blank (slice_index s (if t then blanks_from s i else suc i)) ≡ true
    step true e deeper below = here deeper e
    step false e deeper below = absurd (omega arith)

less_blanks_blank : (s : List ℕ) (i : ℕ) → less_blanks s i < i → is_blank (slice_index s (less_blanks s i)) ≡ true
less_blanks_blank s i = step (is_first_on_line s i)
  where
    step : (t : Bool) → (if t then blanks_from s i else i) < i → is_blank (slice_index s (if t then blanks_from s i else i)) ≡ true
    step true below = blanks_blank s i below
    step false below = absurd (omega arith)

blank_small : (b : ℕ) → is_blank b ≡ true → b < 128
blank_small b e =
    elim (or_cases (b == 32) (b == 9) e) [
      | inl space ↦ (let is = eqb-true b 32 space in omega arith)
      | inr tab ↦ (let is = eqb-true b 9 tab in omega arith)
    ]

-- what is left of data behind its left edge
pub record IsBegun (s r : List ℕ) (from begin to : ℕ) : Type 0 where
  pub low : from ≤ begin
  pub high : begin ≤ to
  pub text : r ≡ stretch s begin to

pub begun_text : (x : Syntax) (s t r : List ℕ) (left : Edge) (from to : ℕ) → from ≤ to → to ≤ length s →
    t ≡ stretch s from to → r ≡ less_start x left t → length r ≤ length t → r ≡ drop (length t - length r) t →
    IsBegun s r from (stripped_from x s left from to) to
begun_text x s t r left from to low high e f bound tail =
    let long : length t ≡ to - from = ap length e ∙ length-stretch s from to low high in
    let place : stripped_from x s left from to ≡ to - length r =
    from_length x s left from to low high ∙ ap (λ u. to - length u) (ap (λ u. less_start x left u) (sym e) ∙ sym f) in
    record {
      low = omega arith;
      high = omega arith;
      text = text_at (length t - length r) (stripped_from x s left from to) place long;
    }
  where
    text_at : (n begin : ℕ) → begin ≡ to - length r → length t ≡ to - from → r ≡ stretch s begin to
    text_at n begin place long =
        let n' = length t - length r in
        let whole : to - from ≡ n' + length r = omega arith in
        let there : from + n' ≡ begin = omega arith in
        let rest : length r ≡ to - begin = omega arith in
        tail ∙
        (ap (λ u. drop n' u) e ∙
        (ap (λ m. drop n' (take m (drop from s))) whole ∙
        (drop-take n' (length r) (drop from s) ∙
        (ap (λ u. take (length r) u) (drop-drop n' from s) ∙
        (ap (λ m. take (length r) (drop m s)) there ∙ ap (λ m. take m (drop begin s)) rest)))))

cut_text : (s r : List ℕ) (begin to n : ℕ) → r ≡ stretch s begin to → n ≤ to - begin → take n r ≡ take n (drop begin s)
cut_text s r begin to n e most = ap (λ u. take n u) e ∙ take-take n (to - begin) (drop begin s) most

minus_to : (x : Syntax) (s : List ℕ) (right : Edge) (begin to : ℕ) → is_minus right ≡ true →
    stripped_to x s right begin to ≡ begin + length (trim_end (stretch s begin to))
minus_to x s Nothing begin to e = absurd (false≢true e)
minus_to x s (Beside k Minus) begin to e = refl
minus_to x s (Beside k Plus) begin to e = absurd (false≢true e)
minus_to x s (Beside k Plain) begin to e = absurd (false≢true e)

blanks_to : (x : Syntax) (s : List ℕ) (right : Edge) (begin to : ℕ) → strips_blanks x right ≡ true →
    stripped_to x s right begin to ≡ less_blanks s to
blanks_to x s Nothing begin to f = absurd (false≢true f)
blanks_to x s (Beside k Minus) begin to f = absurd (false≢true f)
blanks_to x s (Beside k Plus) begin to f = absurd (false≢true f)
blanks_to x s (Beside Variable Plain) begin to f = absurd (false≢true f)
blanks_to x s (Beside Block Plain) begin to f = rw f refl
blanks_to x s (Beside Comment Plain) begin to f = rw f refl
blanks_to x s (Beside LineStatement Plain) begin to f = refl
blanks_to x s (Beside LineComment Plain) begin to f = refl

rest_to : (x : Syntax) (s : List ℕ) (right : Edge) (begin to : ℕ) → is_minus right ≡ false → strips_blanks x right ≡ false →
    stripped_to x s right begin to ≡ to
rest_to x s Nothing begin to e f = refl
rest_to x s (Beside k Minus) begin to e f = absurd (false≢true (sym e))
rest_to x s (Beside k Plus) begin to e f = refl
rest_to x s (Beside Variable Plain) begin to e f = refl
rest_to x s (Beside Block Plain) begin to e f = rw f refl
rest_to x s (Beside Comment Plain) begin to e f = rw f refl
rest_to x s (Beside LineStatement Plain) begin to e f = absurd (false≢true (sym f))
rest_to x s (Beside LineComment Plain) begin to e f = absurd (false≢true (sym f))

pub minus_text : (x : Syntax) (s r u : List ℕ) (right : Edge) (from begin to n : ℕ) → IsBegun s r from begin to → to ≤ length s →
    is_minus right ≡ true → u ≡ trim_end r → u ≡ take n r → length u ≡ n → n ≤ length r → u ≡ stretch s begin (stripped_to x s right begin to)
minus_text x s r u right from begin to n has high e trimmed front long bound =
    let text = has.text in
    let ordered = has.high in
    let size : length r ≡ to - begin = ap length text ∙ length-stretch s begin to ordered high in
    let place : stripped_to x s right begin to ≡ begin + n =
    minus_to x s right begin to e ∙ ap (λ m. begin + m) (ap length (ap trim_end (sym text) ∙ sym trimmed) ∙ long) in
    let width : stripped_to x s right begin to - begin ≡ n = omega arith in
    front ∙ (cut_text s r begin to n text (omega arith) ∙ ap (λ m. take m (drop begin s)) (sym width))

pub blanks_text : (x : Syntax) (s r u : List ℕ) (right : Edge) (from begin to end n : ℕ) → IsBegun s r from begin to → to ≤ length s →
    strips_blanks x right ≡ true → end ≡ less_blanks s to → begin ≡ to - length r → n ≡ end - (to - length r) → u ≡ take n r →
    u ≡ stretch s begin (stripped_to x s right begin to)
blanks_text x s r u right from begin to end n has high f at start width front =
    let place : stripped_to x s right begin to ≡ end = blanks_to x s right begin to f ∙ sym at in
    let low = less_blanks_le s to in
    let same : n ≡ stripped_to x s right begin to - begin = omega arith in
    front ∙ (cut_text s r begin to n (has.text) (omega arith) ∙ ap (λ m. take m (drop begin s)) same)

pub rest_text : (x : Syntax) (s r : List ℕ) (right : Edge) (from begin to : ℕ) → IsBegun s r from begin to →
    is_minus right ≡ false → strips_blanks x right ≡ false → r ≡ stretch s begin (stripped_to x s right begin to)
rest_text x s r right from begin to has e f = has.text ∙ ap (λ m. stretch s begin m) (sym (rest_to x s right begin to e f))

-- the blanks can be cut off
pub blanks_cut : (s r : List ℕ) (from begin to end n : ℕ) → IsBegun s r from begin to → to ≤ length s → IsUtf8 r →
    end ≡ less_blanks s to → begin ≡ to - length r → n ≡ end - (to - length r) → IsCharBoundary r n
blanks_cut s r from begin to end n has high text at start width =
    elim (cases_lt begin end) [
      | inr none ↦ subst (λ m. IsCharBoundary r m) (let e : 0 ≡ n = omega arith in e) (IsCharBoundary-start r text)
      | inl some ↦ elim (cases_lt end to) [
        | inr whole ↦
            let low = less_blanks_le s to in
            let ordered = has.high in
            let size : length r ≡ to - begin = ap length (has.text) ∙ length-stretch s begin to ordered high in
            subst (λ m. IsCharBoundary r m) (let e : length r ≡ n = omega arith in e) (IsCharBoundary-end r)
        | inl within ↦
            let ordered = has.high in
            let size : length r ≡ to - begin = ap length (has.text) ∙ length-stretch s begin to ordered high in
            let there : begin + n ≡ end = omega arith in
            let reads : slice_index r n ≡ slice_index s end =
            ap (λ u. slice_index u n) (has.text) ∙
            (get_or-take (to - begin) (drop begin s) n 0 (omega arith) ∙ (get_or-drop begin s n 0 ∙ ap (λ m. slice_index s m) there)) in
            let small = blank_small (slice_index s end) (ap (λ m. is_blank (slice_index s m)) at ∙ less_blanks_blank s to (let lower : less_blanks s to < to = omega arith in lower)) in
            IsCharBoundary-before_ascii r n (omega arith) (omega arith)
      ]
    ]

pub begin_at : (s r : List ℕ) (from begin to : ℕ) → IsBegun s r from begin to → to ≤ length s → begin ≡ to - length r
begin_at s r from begin to has high =
    let ordered = has.high in omega (arith, ap length (has.text), length-stretch s begin to ordered high)

pub minus_within : (x : Syntax) (s r u : List ℕ) (right : Edge) (from begin to n : ℕ) → IsBegun s r from begin to → to ≤ length s →
    is_minus right ≡ true → u ≡ trim_end r → length u ≡ n → n ≤ length r → stripped_to x s right begin to ≤ to
minus_within x s r u right from begin to n has high e trimmed long bound =
    let text = has.text in
    let ordered = has.high in
    let size : length r ≡ to - begin = ap length text ∙ length-stretch s begin to ordered high in
    let place : stripped_to x s right begin to ≡ begin + n =
    minus_to x s right begin to e ∙ ap (λ m. begin + m) (ap length (ap trim_end (sym text) ∙ sym trimmed) ∙ long) in
    omega arith

pub blanks_within : (x : Syntax) (s : List ℕ) (right : Edge) (begin to : ℕ) → strips_blanks x right ≡ true → stripped_to x s right begin to ≤ to
blanks_within x s right begin to f = (let place = blanks_to x s right begin to f in let low = less_blanks_le s to in omega arith)

pub rest_within : (x : Syntax) (s : List ℕ) (right : Edge) (begin to : ℕ) → is_minus right ≡ false → strips_blanks x right ≡ false →
    stripped_to x s right begin to ≤ to
rest_within x s right begin to e f = (let place = rest_to x s right begin to e f in omega arith)
