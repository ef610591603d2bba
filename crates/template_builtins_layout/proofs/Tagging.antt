-- Lemmas on texts without tags.
use Rattle.std.proofs.Common.{◌≡◌, ℕ, zero, suc, ◌+◌, ◌-◌, ◌<◌, ◌≤◌, List, [], ◌∷◌, ◌++◌, length, take, drop, Bool, true, false, bytes_eq, None, Some, refl, sym, ap, ◌∙◌, arith, append_assoc, length-append, IsUtf8}
use Rattle.std.specs.Str.Pattern.{FindsText, LacksTextAt, SplitsAroundMatch}
use Rattle.std.proofs.lemmas.Bool.{false_from_ne_true}
use Rattle.std.proofs.lemmas.List.{take-append-drop}
use Rattle.std.proofs.lemmas.Slice.Eq.{bytes_eq-Decides}
use Rattle.std.proofs.lemmas.Str.{IsUtf8-drop}
use Rattle.template_builtins_layout.specs.Tags.{around, around_tag, place_of, without, without_up_to}

take-front : (front rest : List ℕ) → take (length front) (front ++ rest) ≡ front
take-front [] rest = refl
take-front (x ∷ front) rest = ap (λ (xs : List ℕ). x ∷ xs) (take-front front rest)

abbrev stands : List ℕ → List ℕ → Bool
stands sought s = bytes_eq sought (take (length sought) s)

stands_from : (sought s rest : List ℕ) → s ≡ sought ++ rest → stands sought s ≡ true
stands_from sought s rest is =
    (bytes_eq-Decides sought (take (length sought) s)).1 (sym (ap (take (length sought)) is ∙ take-front sought rest))

stands_not : (sought s : List ℕ) → LacksTextAt sought s 0 → stands sought s ≡ false
stands_not sought s lacks =
    false_from_ne_true (stands sought s) (λ there.
    lacks (drop (length sought) s)
    (sym (take-append-drop (length sought) s)
    ∙ ap (λ (x : List ℕ). x ++ drop (length sought) s) (sym ((bytes_eq-Decides sought (take (length sought) s)).0 there))))

-- where a text stands nowhere
place_none : (sought s : List ℕ) → FindsText sought s None → place_of sought s ≡ None
place_none sought [] finds = refl
place_none sought (b ∷ bs) finds =
    rw (stands_not sought (b ∷ bs) (finds 0 (omega arith)), place_none sought bs (λ i h. finds (suc i) (omega (arith, h))))

-- where it stands at a place, and at none before it
place_some : (sought s rest : List ℕ) (i : ℕ) → 0 < length sought → ((k : ℕ) → k < i → LacksTextAt sought s k) → drop i s ≡ sought ++ rest
    → place_of sought s ≡ Some i
place_some sought [] rest zero some before is = absurd (omega (arith, some, ap length is, length-append sought rest))
place_some sought [] rest (suc i) some before is = absurd (omega (arith, some, ap length is, length-append sought rest))
place_some sought (b ∷ bs) rest zero some before is = rw (stands_from sought (b ∷ bs) rest is)
place_some sought (b ∷ bs) rest (suc i) some before is =
    rw (stands_not sought (b ∷ bs) (before 0 (omega arith)), place_some sought bs rest i some (λ k h. before (suc k) (omega (arith, h))) is)

around_none : (sought s : List ℕ) → FindsText sought s None → around sought s ≡ None
around_none sought s finds = rw (place_none sought s finds)

around_some : (sought s before after : List ℕ) → 0 < length sought → SplitsAroundMatch (FindsText sought) s before after
    → around sought s ≡ Some (before, after)
around_some sought s before after some (i, j, (lacks, there), front, back, le, len, rest) =
    rw (place_some sought s (drop j s) i some lacks there.split, ← front, ← there.ends, ← back)

-- what is behind a text is shorter by it
shorter : (sought s before after : List ℕ) → SplitsAroundMatch (FindsText sought) s before after → length after + length sought ≤ length s
shorter sought s before after (i, j, (lacks, there), front, back, le, len, rest) = omega (arith, there.ends, rest)

-- and it is text
rest_utf8 : (sought s before after : List ℕ) → IsUtf8 s → SplitsAroundMatch (FindsText sought) s before after → IsUtf8 after
rest_utf8 sought s before after utf8 (i, j, (lacks, there), front, back, le, len, rest) =
    rw (back, there.ends) (IsUtf8-drop s (i + length sought) utf8 there.after)

pub no_start : (start finish s : List ℕ) → FindsText start s None → around_tag start finish s ≡ None
no_start start finish s none = rw (around_none start s none)

pub no_end : (start finish s before inner : List ℕ) → 0 < length start → SplitsAroundMatch (FindsText start) s before inner
    → FindsText finish inner None → around_tag start finish s ≡ None
no_end start finish s before inner some starts none = rw (around_some start s before inner some starts, around_none finish inner none)

pub start_and_end : (start finish s before inner between after : List ℕ) → 0 < length start → 0 < length finish
    → SplitsAroundMatch (FindsText start) s before inner → SplitsAroundMatch (FindsText finish) inner between after
    → around_tag start finish s ≡ Some (before, after)
start_and_end start finish s before inner between after some other starts ends =
    rw (around_some start s before inner some starts, around_some finish inner between after other ends)

pub below_tag : (start finish s before inner between after : List ℕ) → 0 < length start
    → SplitsAroundMatch (FindsText start) s before inner → SplitsAroundMatch (FindsText finish) inner between after → length after < length s
below_tag start finish s before inner between after some starts ends =
    omega (arith, shorter start s before inner starts, shorter finish inner between after ends)

pub behind_tag : (start finish s before inner between after : List ℕ) → IsUtf8 s
    → SplitsAroundMatch (FindsText start) s before inner → SplitsAroundMatch (FindsText finish) inner between after → IsUtf8 after
behind_tag start finish s before inner between after utf8 starts ends =
    rest_utf8 finish inner between after (rest_utf8 start s before inner utf8 starts) ends

without_is : (start finish s : List ℕ) → without start finish s ≡ without_up_to (length s) start finish s
unfolding without
without_is start finish s = refl

no_tag : (n : ℕ) (start finish s : List ℕ) → around_tag start finish s ≡ None → without_up_to n start finish s ≡ s
no_tag zero start finish s none = refl
no_tag (suc n) start finish s none = rw none

next_tag : (n m : ℕ) (start finish s before after : List ℕ) → n ≡ suc m → around_tag start finish s ≡ Some (before, after)
    → without_up_to n start finish s ≡ before ++ without_up_to m start finish after
next_tag n m start finish s before after is tag = rw (is, tag)

-- what is made of the rest stands behind what is made: there are no more tags than bytes left
abbrev pub IsLeft : List ℕ → List ℕ → List ℕ → List ℕ → List ℕ → Type 0
IsLeft start finish out rest whole =
    (n : ℕ) × (length rest ≤ n) × (out ++ without_up_to n start finish rest ≡ without start finish whole)

pub all_left : (start finish out whole : List ℕ) → out ≡ [] → IsLeft start finish out whole whole
all_left start finish out whole none = (
  length whole,
  omega arith,
  ap (λ (x : List ℕ). x ++ without_up_to (length whole) start finish whole) none ∙ sym (without_is start finish whole),
)

pub one_less : (start finish out more rest before after whole : List ℕ) → length after < length rest
    → around_tag start finish rest ≡ Some (before, after) → more ≡ out ++ before → IsLeft start finish out rest whole → IsLeft start finish more after whole
one_less start finish out more rest before after whole less tag grown (n, room, held) =
    let counted : n ≡ suc (n - 1) = omega (arith, less, room) in
    let small : length after ≤ n - 1 = omega (arith, less, room) in
    let step = next_tag n (n - 1) start finish rest before after counted tag in (
      n - 1,
      small,
      ap (λ (x : List ℕ). x ++ without_up_to (n - 1) start finish after) grown
          ∙ append_assoc out before (without_up_to (n - 1) start finish after)
          ∙ ap (λ (x : List ℕ). out ++ x) (sym step)
          ∙ held,
    )

pub none_left : (start finish out more rest whole : List ℕ) → around_tag start finish rest ≡ None → more ≡ out ++ rest → IsLeft start finish out rest whole
    → more ≡ without start finish whole
none_left start finish out more rest whole none grown (n, room, held) =
    grown ∙ ap (λ (x : List ℕ). out ++ x) (sym (no_tag n start finish rest none)) ∙ held
