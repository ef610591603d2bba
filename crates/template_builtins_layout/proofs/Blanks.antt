-- Lemmas on the words of a line and the white space before them.
use Rattle.std.proofs.Common.{◌≡◌, ℕ, suc, ◌-◌, ◌<◌, ◌≤◌, List, [], ◌∷◌, ◌++◌, length, Bool, true, false, ◌==◌, cond, None, Some, refl, sym, ap, ◌∙◌, arith, append_assoc, append-nil, length-append, chars, encode_utf8, encode_utf8_all, IsUtf8}
use Rattle.std.specs.Str.{IsCharBoundary}
use Rattle.std.proofs.lemmas.Bool.Decides.{nat_tests}
use Rattle.std.proofs.lemmas.List.{nil_from_length}
use Rattle.std.proofs.lemmas.Option.{same_Some}
use Rattle.std.proofs.lemmas.Str.{IsCharBoundary-at_seam, IsUtf8-past_char, chars_from_encodes, chars_past_char, chars-nil, encodes-append, encodes-chars}
use Rattle.template_builtins_layout.specs.Pieces.{behind_ones, first_ones, first_piece, is_blank, is_kind, piece_from}

-- some characters of a kind are passed
pub record Passed (blank : Bool) (s rest : List ℕ) : Type 0 where
  pub done : List ℕ
  pub spells : s ≡ encode_utf8_all done ++ rest
  pub first : done ++ first_ones blank (chars rest) ≡ first_ones blank (chars s)
  pub behind : behind_ones blank (chars rest) ≡ behind_ones blank (chars s)
  pub text : IsUtf8 rest

pub passed_none : (blank : Bool) (s : List ℕ) → IsUtf8 s → Passed blank s s
passed_none blank s utf8 = record { done = []; spells = refl; first = refl; behind = refl; text = utf8 }

pub passed_more : (blank : Bool) (s rest after : List ℕ) (c : ℕ) → Passed blank s rest → rest ≡ encode_utf8 c ++ after → is_kind blank c ≡ true
    → Passed blank s after
passed_more blank s rest after c passed parts kind =
    let next : chars rest ≡ c ∷ chars after = chars_past_char rest after c passed.text parts in
    let one : first_ones blank (chars rest) ≡ c ∷ first_ones blank (chars after) = rw (next, kind) in
    let same : behind_ones blank (chars rest) ≡ behind_ones blank (chars after) = rw (next, kind) in
    let spelled : encode_utf8_all (passed.done ++ c ∷ []) ≡ encode_utf8_all passed.done ++ encode_utf8 c =
    encodes-append passed.done (c ∷ []) ∙ ap (λ (x : List ℕ). encode_utf8_all passed.done ++ x) (append-nil (encode_utf8 c)) in
    record {
      done = passed.done ++ c ∷ [];
      spells =
          passed.spells
          ∙ ap (λ (x : List ℕ). encode_utf8_all passed.done ++ x) parts
          ∙ sym (append_assoc (encode_utf8_all passed.done) (encode_utf8 c) after)
          ∙ ap (λ (x : List ℕ). x ++ after) (sym spelled);
      first =
          append_assoc passed.done (c ∷ []) (first_ones blank (chars after))
          ∙ ap (λ (x : List ℕ). passed.done ++ x) (sym one)
          ∙ passed.first;
      behind = sym same ∙ passed.behind;
      text = IsUtf8-past_char rest after c passed.text parts;
    }

-- all of them are passed
all_passed : (blank : Bool) (s rest : List ℕ) → Passed blank s rest → first_ones blank (chars rest) ≡ [] → behind_ones blank (chars rest) ≡ chars rest
    → (s ≡ encode_utf8_all (first_ones blank (chars s)) ++ rest) × (chars rest ≡ behind_ones blank (chars s))
all_passed blank s rest passed none same =
    let all : passed.done ≡ first_ones blank (chars s) = sym (append-nil passed.done) ∙ (rw none at passed.first) in (
      passed.spells ∙ ap (λ (x : List ℕ). encode_utf8_all x ++ rest) all,
      sym same ∙ passed.behind,
    )

pub passed_stop : (blank : Bool) (s rest after : List ℕ) (c : ℕ) → Passed blank s rest → rest ≡ encode_utf8 c ++ after → is_kind blank c ≡ false
    → (s ≡ encode_utf8_all (first_ones blank (chars s)) ++ rest) × (chars rest ≡ behind_ones blank (chars s))
passed_stop blank s rest after c passed parts kind =
    let next : chars rest ≡ c ∷ chars after = chars_past_char rest after c passed.text parts in
    all_passed blank s rest passed (rw (next, kind)) (rw (next, kind))

pub passed_end : (blank : Bool) (s rest : List ℕ) → Passed blank s rest → rest ≡ []
    → (s ≡ encode_utf8_all (first_ones blank (chars s)) ++ rest) × (chars rest ≡ behind_ones blank (chars s))
passed_end blank s rest passed none =
    let empty : chars rest ≡ [] = ap chars none ∙ chars-nil in
    all_passed blank s rest passed (rw empty) (rw empty)

pub rest_le : (s front rest : List ℕ) → s ≡ front ++ rest → length rest ≤ length s
rest_le s front rest parts = omega (arith, ap length parts, length-append front rest)

pub is_nothing : (n : ℕ) (b : Bool) → b ≡ (n == 0) → b ≡ true → n ≡ 0
is_nothing n b is holds = grind (arith, nat_tests)

pub is_something : (n : ℕ) (b : Bool) → b ≡ (n == 0) → b ≡ false → n ≡ 0 → ⊥
is_something n b is fails none = grind (arith, nat_tests)

-- where a text is cut before its rest
pub cut_size : (s front rest : List ℕ) → s ≡ front ++ rest → length s - length rest ≡ length front
cut_size s front rest parts = omega (arith, ap length parts, length-append front rest)

pub cut_boundary : (s front rest : List ℕ) (n : ℕ) → s ≡ front ++ rest → IsUtf8 rest → n ≡ length s - length rest → IsCharBoundary s n
cut_boundary s front rest n parts utf8 is =
    rw (is ∙ cut_size s front rest parts) (IsCharBoundary-at_seam s front rest parts utf8)

pub chars_spelled : (s cs : List ℕ) → IsUtf8 s → s ≡ encode_utf8_all cs → chars s ≡ cs
chars_spelled s cs utf8 is = sym (chars_from_encodes cs s utf8 (sym is))

-- white space alone
pub no_piece : (cs inner : List ℕ) → chars inner ≡ behind_ones true cs → length inner ≡ 0 → first_piece cs ≡ None
no_piece cs inner behind none =
    let empty : behind_ones true cs ≡ [] = sym behind ∙ ap chars (nil_from_length inner none) ∙ chars-nil in
    rw empty

piece_at : (gap inner word after : List ℕ) → (inner ≡ [] → ⊥) → word ≡ first_ones false inner → after ≡ behind_ones false inner
    → piece_from gap inner ≡ Some ((gap, word), after)
piece_at gap [] word after some front back = absurd (some refl)
piece_at gap (c ∷ cs) word after some front back = rw (front, back)

pub one_piece : (cs gap inner word after : List ℕ) → IsUtf8 inner → (length inner ≡ 0 → ⊥) → gap ≡ first_ones true cs → chars inner ≡ behind_ones true cs
    → word ≡ first_ones false (chars inner) → after ≡ behind_ones false (chars inner) → first_piece cs ≡ Some ((gap, word), after)
one_piece cs gap inner word after utf8 some first behind front back =
    let filled : chars inner ≡ [] → ⊥ = λ none. some (ap length (sym (encodes-chars inner utf8) ∙ ap encode_utf8_all none)) in
    ap (piece_from (first_ones true cs)) (sym behind)
    ∙ ap (λ (x : List ℕ). piece_from x (chars inner)) (sym first)
    ∙ piece_at gap (chars inner) word after filled front back

-- what is behind a piece is shorter
behind_le : (blank : Bool) (cs : List ℕ) → length (behind_ones blank cs) ≤ length cs
behind_le blank [] = omega arith
behind_le blank (c ∷ cs) = by_test (is_kind blank c) (behind_le blank cs)
  where
    by_test : (t : Bool) → length (behind_ones blank cs) ≤ length cs → length (cond t (behind_ones blank cs) (c ∷ cs)) ≤ suc (length cs)
    by_test true less = omega arith
    by_test false less = omega arith

head_is : (cs rest : List ℕ) (c : ℕ) → behind_ones true cs ≡ c ∷ rest → is_blank c ≡ false
head_is [] rest c is = absurd cc
head_is (d ∷ cs) rest c is = by_test (is_blank d) refl is (head_is cs rest c)
  where
    by_test : (t : Bool) → is_blank d ≡ t → cond t (behind_ones true cs) (d ∷ cs) ≡ c ∷ rest → (behind_ones true cs ≡ c ∷ rest → is_blank c ≡ false) → is_blank c ≡ false
    by_test true e is further = further is
    by_test false e is further = let same : d ≡ c = cc in rw (← same) e

fewer_at : (gap inner after : List ℕ) (piece : List ℕ × List ℕ) → ((c : ℕ) (rest : List ℕ) → inner ≡ c ∷ rest → is_blank c ≡ false)
    → piece_from gap inner ≡ Some (piece, after) → length after < length inner
fewer_at gap [] after piece heads is = absurd cc
fewer_at gap (c ∷ cs) after piece heads is =
    let plain : behind_ones false (c ∷ cs) ≡ behind_ones false cs = rw (heads c cs refl) in
    let same = same_Some ((gap, first_ones false (c ∷ cs)), behind_ones false (c ∷ cs)) (piece, after) is in
    let rest : behind_ones false (c ∷ cs) ≡ after = ap (λ (p : (List ℕ × List ℕ) × List ℕ). p.1) same in
    omega (arith, ap length (sym plain ∙ rest), behind_le false cs)

pub fewer : (cs after : List ℕ) (piece : List ℕ × List ℕ) → first_piece cs ≡ Some (piece, after) → length after < length cs
fewer cs after piece is =
    omega (arith, fewer_at (first_ones true cs) (behind_ones true cs) after piece (λ c rest e. head_is cs rest c e) is, behind_le true cs)
