-- How the search for start markers finds the next one.
use Rattle.std.proofs.Common.{◌≡◌, ℕ, ◌+◌, ◌<◌, ◌≤◌, inl, inr, List, [], ◌∷◌, length, drop, slice_index, Option, None, Some, sym, ◌∙◌, ap, subst, arith, get_or-drop, zero-add, length-take, length-drop}
use Rattle.std.proofs.lemmas.Bool.{cases_lt, cases_eq}
use Rattle.std.proofs.lemmas.List.{get_or-take, get_or_past}
use Rattle.memchr.specs.Find.{IsFirstByte, is_byte}
use Rattle.template_compiler_syntax.specs.declared.StartMarker.{StartMarker}
use Rattle.template_compiler_syntax.specs.declared.StartMarker.TheVariants.{Variable, Block, Comment, LineStatement, LineComment}
use Rattle.template_compiler_syntax.specs.Syntax.{Syntax, IsSet, start_text, HasDefaultStarts}
use Rattle.template_compiler_syntax.specs.declared.starts.Known.{Known}
use Rattle.template_compiler_syntax.specs.declared.starts.Known.TheVariants.{At}
use Rattle.template_compiler_syntax.specs.Places.{StandsAt, IsFirst, IsNowhere}
use Rattle.template_compiler_syntax.specs.Segments.{HasStart, HasNoStart, IsNextStart}
use Rattle.template_compiler_syntax.specs.Known.{IsBehind, EachOf, IsNearest, IsNearer, StaysNearest, IsNextOrNone, IsBraces, IsBracesOf}
use Rattle.template_compiler_syntax.proofs.Searches.{byte_found, no_byte, occurs_stands}

each_map : (P Q : StartMarker → Type 0) → ((k : StartMarker) → P k → Q k) → (ks : List StartMarker) → EachOf ks P → EachOf ks Q
each_map P Q f [] each = tt
each_map P Q f (k ∷ ks) each = (f k (each.0), each_map P Q f ks (each.1))

pub nearer_first : (x : Syntax) (i : ℕ) (k : StartMarker) → IsNearer x None (At i) k (Some (i, k))
nearer_first x i k s from ks none first = (
  first.ahead,
  first.here,
  (
    record { before = first.before; shorter = λ h. omega arith },
    each_map (λ l. IsNowhere (λ j. HasStart x s j l) from) (λ l. IsBehind x s from i k l) (λ l never. record {
      before = λ j low high h. never j low h;
      shorter = λ h. absurd (never i (first.ahead) h);
    }) ks none,
  ),
)

pub nearer_at : (x : Syntax) (k : StartMarker) (result : Option (ℕ × StartMarker)) {nearest nearest' : Option (ℕ × StartMarker)} {known known' : Known} →
    nearest ≡ nearest' → known ≡ known' → IsNearer x nearest' known' k result → IsNearer x nearest known k result
nearer_at x k result {nearest' = nearest'} {known = known} e f h =
    subst (λ n. IsNearer x n known k result) (sym e) (subst (λ n. IsNearer x nearest' n k result) (sym f) h)

pub nearer_other : (x : Syntax) (i j : ℕ) (m k : StartMarker) → (StaysNearest x i m j k → ⊥) → IsNearer x (Some (i, m)) (At j) k (Some (j, k))
nearer_other x i j m k other s from ks nearest first = (
  first.ahead,
  first.here,
  (
    record { before = first.before; shorter = λ h. omega arith },
    each_map (λ l. IsBehind x s from i m l) (λ l. IsBehind x s from j k l) (λ l behind. record {
      before = λ n low high h. behind.before n low (ahead_of high) h;
      shorter = λ h. elim (cases_lt j i) [
        | inl left ↦ absurd (behind.before j (first.ahead) left h)
        | inr there ↦
            let same : i ≡ j = at_one there in
            let longer = longer_at same in
            let short = behind.shorter (subst (λ n. HasStart x s n l) (sym same) h) in omega arith
      ];
    }) ks (nearest.2),
  ),
)
  where
    not_left : i < j → ⊥
    not_left left = other (inl left)

    ahead_of : {n : ℕ} → n < j → n < i
    ahead_of high = elim (cases_lt i j) [ inl left ↦ absurd (not_left left) | inr right ↦ omega arith ]

    at_one : i ≤ j → i ≡ j
    at_one there = elim (cases_lt i j) [ inl left ↦ absurd (not_left left) | inr right ↦ omega arith ]

    longer_at : i ≡ j → length (start_text x m) < length (start_text x k)
    longer_at same =
        elim (cases_lt (length (start_text x m)) (length (start_text x k))) [
          | inl longer ↦ longer
          | inr shorter ↦ absurd (other (inr (same, shorter)))
        ]

pub nearer_stays : (x : Syntax) (i j : ℕ) (m k : StartMarker) → StaysNearest x i m j k → IsNearer x (Some (i, m)) (At j) k (Some (i, m))
nearer_stays x i j m k stays s from ks nearest first = (
  nearest.0,
  nearest.1,
  (
    record {
      before = λ n low high h. first.before n low (let most = at_most stays in omega arith) h;
      shorter = λ h. elim stays [
        | inl left ↦ absurd (first.before i (nearest.0) left h)
        | inr same ↦ same.1
      ];
    },
    nearest.2,
  ),
)
  where
    at_most : StaysNearest x i m j k → i ≤ j
    at_most (inl left) = omega arith
    at_most (inr same) = (let e = same.0 in omega arith)

pub nearest_next : (x : Syntax) (s : List ℕ) (from : ℕ) (r : Option (ℕ × StartMarker)) →
    IsNearest x s from (LineComment ∷ LineStatement ∷ Comment ∷ Block ∷ Variable ∷ []) r → IsNextOrNone x s from r
nearest_next x s from None none = λ i low k h. nowhere k i low h
  where
    nowhere : (k : StartMarker) (i : ℕ) → from ≤ i → HasStart x s i k → ⊥
    nowhere LineComment = none.0
    nowhere LineStatement = none.1.0
    nowhere Comment = none.1.1.0
    nowhere Block = none.1.1.1.0
    nowhere Variable = none.1.1.1.1.0
nearest_next x s from (Some p) nearest = record {
  ahead = nearest.0;
  here = nearest.1;
  longest = λ l h. (behind l).shorter h;
  leftmost = λ j low high l h. (behind l).before j low high h;
}
  where
    behind : (k : StartMarker) → IsBehind x s from (p.0) (p.1) k
    behind LineComment = nearest.2.0
    behind LineStatement = nearest.2.1.0
    behind Comment = nearest.2.1.1.0
    behind Block = nearest.2.1.1.1.0
    behind Variable = nearest.2.1.1.1.1.0

-- what stands at a place reads as it does
stands_read : (s text : List ℕ) (i j : ℕ) → StandsAt s i text → j < length text → slice_index s (i + j) ≡ slice_index text j
stands_read s text i j stands within =
    sym (get_or-drop i s j 0) ∙ (sym (get_or-take (length text) (drop i s) j 0 within) ∙ ap (λ t. slice_index t j) stands)

two_stand : (s : List ℕ) (i b c : ℕ) → slice_index s i ≡ b → slice_index s (i + 1) ≡ c → 0 < c → StandsAt s i (b ∷ c ∷ [])
two_stand s i b c first second some =
    let within : i + 1 < length s = elim (cases_lt (i + 1) (length s)) [
      | inl within ↦ within
      | inr past ↦ absurd (let none = get_or_past s (i + 1) 0 past in omega arith)
    ] in
    subst (λ n. StandsAt s n (b ∷ c ∷ [])) (zero-add i) (occurs_stands s (b ∷ c ∷ []) 0 i (record {
      fits = omega arith;
      reads = λ j below. elim (cases_eq j 0) [
        | inl none ↦ (let place : i + j ≡ i = omega arith in ap (λ n. slice_index s n) place ∙ (first ∙ ap (λ n. slice_index (b ∷ c ∷ []) n) (sym none)))
        | inr other ↦
            let one : j ≡ 1 = omega arith in
            ap (λ n. slice_index s (i + n)) one ∙ (second ∙ ap (λ n. slice_index (b ∷ c ∷ []) n) (sym one))
      ];
    }))

two_read : (s : List ℕ) (i b c : ℕ) → StandsAt s i (b ∷ c ∷ []) → (slice_index s i ≡ b) × (slice_index s (i + 1) ≡ c)
two_read s i b c stands = (
  (let place : i + 0 ≡ i = omega arith in ap (λ n. slice_index s n) (sym place) ∙ stands_read s (b ∷ c ∷ []) i 0 stands (omega arith)),
  stands_read s (b ∷ c ∷ []) i 1 stands (omega arith),
)

module _ (x : Syntax) (default : HasDefaultStarts x) where
  default_long : (k : StartMarker) → length (start_text x k) ≤ 2
  default_long Variable = rw default.variable_start (omega arith)
  default_long Block = rw default.block_start (omega arith)
  default_long Comment = rw default.comment_start (omega arith)
  default_long LineStatement = rw default.line_statement_prefix (omega arith)
  default_long LineComment = rw default.line_comment_prefix (omega arith)

  start_braces : (s : List ℕ) (i : ℕ) (k : StartMarker) → HasStart x s i k → IsBraces s i
  start_braces s i Variable h =
      let reads = two_read s i 123 123 (subst (λ t. StandsAt s i t) (default.variable_start) (h.stands)) in (reads.0, inl (reads.1))
  start_braces s i Block h =
      let reads = two_read s i 123 37 (subst (λ t. StandsAt s i t) (default.block_start) (h.stands)) in (reads.0, inr (inl (reads.1)))
  start_braces s i Comment h =
      let reads = two_read s i 123 35 (subst (λ t. StandsAt s i t) (default.comment_start) (h.stands)) in (reads.0, inr (inr (reads.1)))
  start_braces s i LineStatement h = absurd (h.is_set (default.line_statement_prefix))
  start_braces s i LineComment h = absurd (h.is_set (default.line_comment_prefix))

  made_start : (s : List ℕ) (i b c : ℕ) (k : StartMarker) → start_text x k ≡ b ∷ c ∷ [] → slice_index s i ≡ b → slice_index s (i + 1) ≡ c → 0 < c →
      (IsSet (start_text x k)) × StandsAt s i (start_text x k) × (2 ≤ length (start_text x k))
  made_start s i b c k e first second some = (
    λ none. (let both = sym e ∙ none in cc),
    subst (λ t. StandsAt s i t) (sym e) (two_stand s i b c first second some),
    omega (arith, ap length e),
  )

  braces_start : (s : List ℕ) (i : ℕ) (k : StartMarker) → IsBraces s i → IsBracesOf s i k →
      HasStart x s i k × (2 ≤ length (start_text x k))
  braces_start s i Variable braces of =
      let made = made_start s i 123 123 Variable (default.variable_start) (braces.0) of (omega arith) in
      (record { is_set = made.0; stands = made.1; eligible = tt }, made.2)
  braces_start s i Block braces of =
      let made = made_start s i 123 37 Block (default.block_start) (braces.0) of (omega arith) in
      (record { is_set = made.0; stands = made.1; eligible = tt }, made.2)
  braces_start s i Comment braces of =
      let second : slice_index s (i + 1) ≡ 35 = elim (braces.1) [
        | inl print ↦ absurd (of.0 print)
        | inr other ↦ elim other [ inl block ↦ absurd (of.1 block) | inr comment ↦ comment ]
      ] in
      let made = made_start s i 123 35 Comment (default.comment_start) (braces.0) second (omega arith) in
      (record { is_set = made.0; stands = made.1; eligible = tt }, made.2)
  braces_start s i LineStatement braces of = absurd of
  braces_start s i LineComment braces of = absurd of

  pub braces_next : (s : List ℕ) (from i : ℕ) (k : StartMarker) → IsFirst (λ j. IsBraces s j) from i → IsBracesOf s i k → IsNextStart x s from i k
  braces_next s from i k first of =
      let start = braces_start s i k (first.here) of in
      let long = start.1 in
      record {
        ahead = first.ahead;
        here = start.0;
        longest = λ l h. (let short = default_long l in omega arith);
        leftmost = λ j low high l h. first.before j low high (start_braces s j l h);
      }

  pub braces_none : (s : List ℕ) (from : ℕ) → IsNowhere (λ j. IsBraces s j) from → HasNoStart x s from
  braces_none s from none i low k h = none i low (start_braces s i k h)

-- the search for braces
pub braces_found : (s rest : List ℕ) (from at skipped : ℕ) → from ≤ at → rest ≡ drop at s → IsFirstByte (is_byte 123) rest (Some skipped) →
    ((k : ℕ) → from ≤ k → k < at → IsBraces s k → ⊥) → (k : ℕ) → from ≤ k → k < at + skipped → IsBraces s k → ⊥
braces_found s rest from at skipped low e found none k above below braces =
    elim (cases_lt k at) [
      | inl before ↦ none k above before braces
      | inr behind ↦ (byte_found s rest at 123 skipped e found).2 k behind below (braces.0)
    ]

pub braces_past : (s : List ℕ) (from brace : ℕ) → ((k : ℕ) → from ≤ k → k < brace → IsBraces s k → ⊥) → (IsBraces s brace → ⊥) →
    (k : ℕ) → from ≤ k → k < brace + 1 → IsBraces s k → ⊥
braces_past s from brace none here k above below braces =
    elim (cases_eq k brace) [
      | inl same ↦ here (subst (λ n. IsBraces s n) same braces)
      | inr other ↦ none k above (omega arith) braces
    ]

pub braces_nowhere : (s rest : List ℕ) (from at : ℕ) → rest ≡ drop at s → IsFirstByte (is_byte 123) rest None →
    ((k : ℕ) → from ≤ k → k < at → IsBraces s k → ⊥) → (k : ℕ) → from ≤ k → IsBraces s k → ⊥
braces_nowhere s rest from at e never none k above braces =
    elim (cases_lt k at) [
      | inl before ↦ none k above before braces
      | inr behind ↦ elim (cases_lt k (length s)) [
        | inl within ↦ no_byte s rest at 123 e never k behind within (braces.0)
        | inr past ↦ (let zero' = get_or_past s k 0 past in let is = braces.0 in absurd (omega arith))
      ]
    ]

-- the start markers of the default syntax are of two bytes
pub default_len : (x : Syntax) (k : StartMarker) → HasDefaultStarts x → IsSet (start_text x k) → length (start_text x k) ≡ 2
default_len x Variable d set = ap length d.variable_start
default_len x Block d set = ap length d.block_start
default_len x Comment d set = ap length d.comment_start
default_len x LineStatement d set = absurd (set d.line_statement_prefix)
default_len x LineComment d set = absurd (set d.line_comment_prefix)

pub default_within : (x : Syntax) (s : List ℕ) (from i : ℕ) (k : StartMarker) → HasDefaultStarts x → IsNextStart x s from i k → i + 2 ≤ length s
default_within x s from i k d start =
    let text = start_text x k in
    let two = default_len x k d start.here.is_set in
    omega (arith, two, ap length start.here.stands, length-take (length text) (drop i s), length-drop i s)
