-- What searches in the rest of a source tell of its places.
use Rattle.std.proofs.Common.{◌≡◌, ℕ, suc, ◌+◌, ◌-◌, ◌<◌, ◌≤◌, ◌⊎◌, inl, inr, true, false, List, [], ◌∷◌, length, take, drop, slice_index, Option, None, Some, refl, sym, ◌∙◌, ap, subst, arith, length-take, length-drop, get_or-drop}
use Rattle.std.proofs.lemmas.Bool.{cases_eq, cases_Bool, eqb-true, eq-eqb, and_parts}
use Rattle.std.proofs.lemmas.List.{ext_get_or, get_or-take, get_or_past}
use Rattle.std.specs.Prelude.{if◌then◌else◌, ◌&&◌, ◌==◌}
use Rattle.memchr.specs.Find.{OccursAt, FindsNeedle, IsFirstByte, is_byte, Passes}
use Rattle.template_compiler_syntax.specs.Places.{StandsAt, IsFirst, IsLineEnd, newline_len, is_blank, blanks_from}

pub occurs_stands : (s text : List ℕ) (from k : ℕ) → OccursAt (drop from s) text k → StandsAt s (from + k) text
occurs_stands s text from k occurs =
    let fits = occurs.fits in
    let long : length (take (length text) (drop (from + k) s)) ≡ length text =
    omega (arith, length-take (length text) (drop (from + k) s), length-drop (from + k) s, length-drop from s) in
    ext_get_or 0 _ text long (λ j below.
    let within : j < length text = omega arith in
    let place : from + (k + j) ≡ from + k + j = omega arith in
    get_or-take (length text) (drop (from + k) s) j 0 within ∙
    (get_or-drop (from + k) s j 0 ∙
    (ap (λ n. slice_index s n) (sym place) ∙ (sym (get_or-drop from s (k + j) 0) ∙ occurs.reads j within))))

pub stands_occurs : (s text : List ℕ) (from k : ℕ) → 0 < length text → StandsAt s (from + k) text → OccursAt (drop from s) text k
stands_occurs s text from k long stands =
    let lengths = ap length stands in
    record {
      fits = omega (arith, lengths, length-take (length text) (drop (from + k) s), length-drop (from + k) s, length-drop from s);
      reads =
          λ j within.
          let place : from + (k + j) ≡ from + k + j = omega arith in
          get_or-drop from s (k + j) 0 ∙
          (ap (λ n. slice_index s n) place ∙
          (sym (get_or-drop (from + k) s j 0) ∙
          (sym (get_or-take (length text) (drop (from + k) s) j 0 within) ∙ ap (λ t. slice_index t j) stands)));
    }

pub found_text : (s text rest : List ℕ) (from skipped : ℕ) → 0 < length text → rest ≡ drop from s →
    FindsNeedle rest text 0 (Some skipped) → IsFirst (λ j. StandsAt s j text) from (from + skipped)
found_text s text rest from skipped long e found =
    let occurs : OccursAt (drop from s) text skipped = subst (λ r. OccursAt r text skipped) e (found.1) in
    record {
      ahead = omega arith;
      here = occurs_stands s text from skipped occurs;
      before =
          λ j low high stands.
          let place : from + (j - from) ≡ j = omega arith in
          let at : OccursAt (drop from s) text (j - from) =
          stands_occurs s text from (j - from) long (subst (λ n. StandsAt s n text) (sym place) stands) in
          found.0.before (j - from) (omega arith) (omega arith) (subst (λ r. OccursAt r text (j - from)) (sym e) at);
    }

pub no_text : (s text rest : List ℕ) (from : ℕ) → 0 < length text → rest ≡ drop from s →
    FindsNeedle rest text 0 None → (j : ℕ) → from ≤ j → StandsAt s j text → ⊥
no_text s text rest from long e none j low stands =
    let place : from + (j - from) ≡ j = omega arith in
    let at : OccursAt (drop from s) text (j - from) =
    stands_occurs s text from (j - from) long (subst (λ n. StandsAt s n text) (sym place) stands) in
    let fits = at.fits in
    none (j - from) (omega arith) (omega (arith, ap length e)) (subst (λ r. OccursAt r text (j - from)) (sym e) at)

-- a text of one byte occurs where the byte stands
byte_occurs : (rest : List ℕ) (b k : ℕ) → k < length rest → Passes (is_byte b) rest k → OccursAt rest (b ∷ []) k
byte_occurs rest b k within passes = record {
  fits = omega arith;
  reads =
      λ j below.
      let first : j ≡ 0 = omega arith in
      let place : k + j ≡ k = omega arith in
      ap (λ n. slice_index rest n) place ∙ (eqb-true (slice_index rest k) b passes ∙ ap (λ n. slice_index (b ∷ []) n) (sym first));
}

occurs_byte : (rest : List ℕ) (b k : ℕ) → OccursAt rest (b ∷ []) k → Passes (is_byte b) rest k
occurs_byte rest b k occurs =
    let place : k + 0 ≡ k = omega arith in
    eq-eqb (slice_index rest k) b (ap (λ n. slice_index rest n) (sym place) ∙ occurs.reads 0 (omega arith))

pub byte_needle : (rest : List ℕ) (b : ℕ) (r : Option ℕ) → IsFirstByte (is_byte b) rest r → FindsNeedle rest (b ∷ []) 0 r
byte_needle rest b None none = λ k low high occurs.
    let fits = occurs.fits in none k low (omega arith) (occurs_byte rest b k occurs)
byte_needle rest b (Some k) found =
    let within = found.0.high in (
      record {
        low = omega arith;
        high = omega arith;
        before = λ j low high occurs. found.0.before j low high (occurs_byte rest b j occurs);
      },
      byte_occurs rest b k within (found.1),
    )

-- a newline stands at a `\n`, and at a `\r` directly before one
newline_bytes : (a b : ℕ) → 0 < (if a == 10 then 1 else if a == 13 && b == 10 then 2 else 0) → (a ≡ 10) ⊎ ((a ≡ 13) × (b ≡ 10))
newline_bytes a b =
    elim (cases_Bool (a == 10)) [
      | inl is ↦ (λ h. inl (eqb-true a 10 is))
      | inr not ↦ elim (cases_Bool (a == 13 && b == 10)) [
        | inl both ↦ (λ h. inr (let parts = and_parts (a == 13) (b == 10) both in (eqb-true a 13 (parts.0), eqb-true b 10 (parts.1))))
        | inr none ↦ (rw (not, none) (λ h. absurd (omega arith)))
      ]
    ]

pub newline_at : (s : List ℕ) (i : ℕ) → 0 < newline_len s i → (slice_index s i ≡ 10) ⊎ ((slice_index s i ≡ 13) × (slice_index s (i + 1) ≡ 10))
newline_at s i = newline_bytes (slice_index s i) (slice_index s (i + 1))

pub line_feed : (s : List ℕ) (i : ℕ) → slice_index s i ≡ 10 → 0 < newline_len s i
line_feed s i e = rw e (omega arith)

pub return_feed : (s : List ℕ) (i : ℕ) → slice_index s i ≡ 13 → slice_index s (i + 1) ≡ 10 → 0 < newline_len s i
return_feed s i e f = rw (e, f) (omega arith)

NoFeed : List ℕ → ℕ → ℕ → Type 0
NoFeed s from end = (j : ℕ) → from ≤ j → j < end → slice_index s j ≡ 10 → ⊥

pub first_line_end : (s : List ℕ) (from end : ℕ) → from ≤ end → end ≤ length s → IsLineEnd s end →
    ((j : ℕ) → from ≤ j → j < end → slice_index s j ≡ 10 → ⊥) →
    ((j : ℕ) → from ≤ j → j + 1 ≡ end → slice_index s j ≡ 13 → slice_index s end ≡ 10 → ⊥) → IsFirst (λ i. IsLineEnd s i) from end
first_line_end s from end low most here feeds returns = record {
  ahead = low;
  here = here;
  before =
      λ j above below over. elim over [
        | inr past ↦ omega arith
        | inl newline ↦ elim (newline_at s j newline) [
          | inl feed ↦ feeds j above below feed
          | inr both ↦ elim (cases_eq (j + 1) end) [
            | inl last ↦ returns j above last (both.0) (ap (λ n. slice_index s n) (sym last) ∙ both.1)
            | inr other ↦ feeds (j + 1) (omega arith) (omega arith) (both.1)
          ]
        ]
      ];
}

rest_reads : (s rest : List ℕ) (from k : ℕ) → rest ≡ drop from s → from ≤ k → slice_index rest (k - from) ≡ slice_index s k
rest_reads s rest from k e low =
    let place : from + (k - from) ≡ k = omega arith in
    ap (λ r. slice_index r (k - from)) e ∙ (get_or-drop from s (k - from) 0 ∙ ap (λ n. slice_index s n) place)

-- what a search for a byte in the rest tells
pub byte_found : (s rest : List ℕ) (from b skipped : ℕ) → rest ≡ drop from s → IsFirstByte (is_byte b) rest (Some skipped) →
    (from + skipped < length s) × (slice_index s (from + skipped) ≡ b) ×
    ((j : ℕ) → from ≤ j → j < from + skipped → slice_index s j ≡ b → ⊥)
byte_found s rest from b skipped e found =
    let high = found.0.high in
    let place : from + skipped - from ≡ skipped = omega arith in (
      omega (arith, ap length e, length-drop from s),
      sym (rest_reads s rest from (from + skipped) e (omega arith)) ∙
          (ap (λ n. slice_index rest n) place ∙ eqb-true (slice_index rest skipped) b (found.1)),
      λ j low below is. found.0.before (j - from) (omega arith) (omega arith) (eq-eqb (slice_index rest (j - from)) b (rest_reads s rest from j e low ∙ is)),
    )

pub no_byte : (s rest : List ℕ) (from b : ℕ) → rest ≡ drop from s → IsFirstByte (is_byte b) rest None →
    (j : ℕ) → from ≤ j → j < length s → slice_index s j ≡ b → ⊥
no_byte s rest from b e none j low below is =
    none (j - from) (omega arith) (omega (arith, ap length e, length-drop from s))
    (eq-eqb (slice_index rest (j - from)) b (rest_reads s rest from j e low ∙ is))

pub blanks_none : (s : List ℕ) → blanks_from s 0 ≡ 0
unfolding blanks_from
blanks_none s = refl

blanks_suc : (s : List ℕ) (i : ℕ) → is_blank (slice_index s i) ≡ true → blanks_from s (suc i) ≡ blanks_from s i
unfolding blanks_from
blanks_suc s i blank = rw blank refl

blanks_stop : (s : List ℕ) (i : ℕ) → is_blank (slice_index s i) ≡ false → blanks_from s (suc i) ≡ suc i
unfolding blanks_from
blanks_stop s i other = rw other refl

pub blanks_more : (s : List ℕ) (n : ℕ) → 0 < n → is_blank (slice_index s (n - 1)) ≡ true → blanks_from s n ≡ blanks_from s (n - 1)
blanks_more s n some blank =
    let e : n ≡ suc (n - 1) = omega arith in ap (λ k. blanks_from s k) e ∙ blanks_suc s (n - 1) blank

pub blanks_end : (s : List ℕ) (n : ℕ) → 0 < n → is_blank (slice_index s (n - 1)) ≡ false → blanks_from s n ≡ n
blanks_end s n some other =
    let e : n ≡ suc (n - 1) = omega arith in ap (λ k. blanks_from s k) e ∙ (blanks_stop s (n - 1) other ∙ sym e)

pub one_byte_needle : (rest text : List ℕ) (r : Option ℕ) → 1 ≤ length text → length text < 2 →
    IsFirstByte (is_byte (slice_index text 0)) rest r → FindsNeedle rest text 0 r
one_byte_needle rest [] r low high first = absurd (omega arith)
one_byte_needle rest (b ∷ []) r low high first = byte_needle rest b r first
one_byte_needle rest (b ∷ c ∷ text) r low high first = absurd (omega arith)

pub line_end_return : (s rest : List ℕ) (from skipped : ℕ) → rest ≡ drop from s → IsFirstByte (is_byte 10) rest (Some skipped) →
    0 < skipped → slice_index s (from + skipped - 1) ≡ 13 → IsFirst (λ i. IsLineEnd s i) from (from + skipped - 1)
line_end_return s rest from skipped e found some is =
    let feed = byte_found s rest from 10 skipped e found in
    let within = feed.0 in
    let place : from + skipped - 1 + 1 ≡ from + skipped = omega arith in
    first_line_end s from (from + skipped - 1) (omega arith) (omega arith)
    (inl (return_feed s (from + skipped - 1) is (ap (λ n. slice_index s n) place ∙ feed.1)))
    (λ j low below is. feed.2 j low (omega arith) is)
    (λ j low last is' feed'. feed.2 (from + skipped - 1) (omega arith) (omega arith) feed')

pub line_end_feed : (s rest : List ℕ) (from skipped : ℕ) → rest ≡ drop from s → IsFirstByte (is_byte 10) rest (Some skipped) →
    (skipped ≡ 0) ⊎ (slice_index s (from + skipped - 1) ≡ 13 → ⊥) → IsFirst (λ i. IsLineEnd s i) from (from + skipped)
line_end_feed s rest from skipped e found other =
    let feed = byte_found s rest from 10 skipped e found in
    let within = feed.0 in
    first_line_end s from (from + skipped) (omega arith) (omega arith)
    (inl (line_feed s (from + skipped) (feed.1)))
    (λ j low below is. feed.2 j low below is)
    (λ j low last is feed'. elim other [
      | inl none ↦ omega arith
      | inr not ↦ not (let place : from + skipped - 1 ≡ j = omega arith in ap (λ n. slice_index s n) place ∙ is)
    ])

pub line_end_none : (s rest : List ℕ) (from : ℕ) → from ≤ length s → rest ≡ drop from s → IsFirstByte (is_byte 10) rest None →
    IsFirst (λ i. IsLineEnd s i) from (length s)
line_end_none s rest from low e none =
    first_line_end s from (length s) low (omega arith) (inr (omega arith))
    (λ j above below is. no_byte s rest from 10 e none j above below is)
    (λ j above last is feed. absurd (let past = get_or_past s (length s) 0 (omega arith) in omega arith))
