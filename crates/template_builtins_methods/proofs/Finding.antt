-- Lemmas on the places where a text stands in another.
use Rattle.std.proofs.Common.{◌≡◌, ℕ, zero, suc, ◌-◌, ◌<◌, ◌≤◌, List, [], ◌∷◌, ◌++◌, length, take, drop, true, false, nat_eq, chars, Option, None, Some, IfSome, MatchOption, refl, sym, ap, ◌∙◌, arith}
use Rattle.std.specs.List.{slice_range, starts_with}
use Rattle.std.specs.Str.{IsCharBoundary}
use Rattle.std.specs.Str.Pattern.{FindsText, RFindsText, LacksTextAt, MatchBeginsAt, SplitsAroundMatch}
use Rattle.std.proofs.lemmas.Bool.{false_from_ne_true}
use Rattle.std.proofs.lemmas.List.{take-append-drop}
use Rattle.std.proofs.lemmas.Slice.Eq.{bytes_eq-Decides}
use Rattle.template_builtins_texts.proofs.Ends.{take-front}
use Rattle.template_builtins_texts.proofs.Places.{place_none, place_some}
use Rattle.template_builtins_texts.specs.Replacing.{parts_between}
use Rattle.template_builtins_methods.specs.Places.{first_place, here, last_place}

here_some : (part s rest : List ℕ) → s ≡ part ++ rest → here part s ≡ Some 0
here_some part s rest is =
    let stands : starts_with nat_eq s part ≡ true = (bytes_eq-Decides part (take (length part) s)).1 (sym (ap (take (length part)) is ∙ take-front part rest)) in
    rw stands

here_none : (part s : List ℕ) → LacksTextAt part s 0 → here part s ≡ None
here_none part s lacks =
    let stands : starts_with nat_eq s part ≡ false =
    false_from_ne_true (starts_with nat_eq s part) (λ there.
    lacks (drop (length part) s)
    (sym (take-append-drop (length part) s)
    ∙ ap (λ (x : List ℕ). x ++ drop (length part) s) (sym ((bytes_eq-Decides part (take (length part) s)).0 there)))) in
    rw stands

-- where it stands nowhere
first_none : (part s : List ℕ) → ((i : ℕ) → i ≤ length s → LacksTextAt part s i) → first_place part s ≡ None
first_none part [] lacks = here_none part [] (lacks 0 (omega arith))
first_none part (b ∷ bs) lacks =
    rw (here_none part (b ∷ bs) (lacks 0 (omega arith)), first_none part bs (λ i h. lacks (suc i) (omega (arith, h))))

last_none : (part s : List ℕ) → ((i : ℕ) → i ≤ length s → LacksTextAt part s i) → last_place part s ≡ None
last_none part [] lacks = here_none part [] (lacks 0 (omega arith))
last_none part (b ∷ bs) lacks =
    rw (here_none part (b ∷ bs) (lacks 0 (omega arith)), last_none part bs (λ i h. lacks (suc i) (omega (arith, h))))

-- where it stands at a place, and at none before it, or behind it
first_some : (part s rest : List ℕ) (i : ℕ) → ((k : ℕ) → k < i → LacksTextAt part s k) → drop i s ≡ part ++ rest → first_place part s ≡ Some i
first_some part [] rest zero before is = here_some part [] rest is
first_some part [] rest (suc i) before is = absurd (before 0 (omega arith) rest is)
first_some part (b ∷ bs) rest zero before is = rw (here_some part (b ∷ bs) rest is)
first_some part (b ∷ bs) rest (suc i) before is =
    rw (here_none part (b ∷ bs) (before 0 (omega arith)), first_some part bs rest i (λ k h. before (suc k) (omega (arith, h))) is)

last_some : (part s rest : List ℕ) (i : ℕ) → i ≤ length s → ((k : ℕ) → i < k → k ≤ length s → LacksTextAt part s k)
    → drop i s ≡ part ++ rest → last_place part s ≡ Some i
last_some part [] rest zero le behind is = here_some part [] rest is
last_some part [] rest (suc i) le behind is = absurd (omega (arith, le))
last_some part (b ∷ bs) rest zero le behind is =
    rw (last_none part bs (λ k h. behind (suc k) (omega arith) (omega (arith, h))), here_some part (b ∷ bs) rest is)
last_some part (b ∷ bs) rest (suc i) le behind is =
    rw (last_some part bs rest i (omega (arith, le)) (λ k h g. behind (suc k) (omega (arith, h)) (omega (arith, g))) is)

-- what is found is that place, and the text may be cut there
pub first_is : (part s : List ℕ) (r : Option ℕ) → MatchOption r (FindsText part s None) (MatchBeginsAt (FindsText part) s) → r ≡ first_place part s
first_is part s None lacks = sym (first_none part s lacks)
first_is part s (Some i) (j, finds, le, start, end) = sym (first_some part s (drop j s) i finds.0 finds.1.split)

pub first_boundary : (part s : List ℕ) (r : Option ℕ) → MatchOption r (FindsText part s None) (MatchBeginsAt (FindsText part) s)
    → IfSome r (IsCharBoundary s)
first_boundary part s None lacks = tt
first_boundary part s (Some i) (j, finds, le, start, end) = start

pub last_is : (part s : List ℕ) (r : Option ℕ) → MatchOption r (RFindsText part s None) (MatchBeginsAt (RFindsText part) s) → r ≡ last_place part s
last_is part s None lacks = sym (last_none part s lacks)
last_is part s (Some i) (j, finds, le, start, end) = sym (last_some part s (drop j s) i start.0 finds.0 finds.1.split)

pub last_boundary : (part s : List ℕ) (r : Option ℕ) → MatchOption r (RFindsText part s None) (MatchBeginsAt (RFindsText part) s)
    → IfSome r (IsCharBoundary s)
last_boundary part s None lacks = tt
last_boundary part s (Some i) (j, finds, le, start, end) = start

pub front_counted : (s : List ℕ) (n : ℕ) → length (chars (slice_range s 0 n)) ≡ length (chars (take n s))
front_counted s n = let all : n - 0 ≡ n = omega arith in rw all

-- one part more for each place
pub parts_next : (part s before rest : List ℕ) (n m : ℕ) → 0 < length part → n ≡ suc m → SplitsAroundMatch (FindsText part) s before rest
    → length (parts_between part n s) ≡ suc (length (parts_between part m rest))
parts_next part s before rest n m some is (i, j, (lacks, there), front, back, le, len, short) =
    rw (is, place_some part s (drop j s) i some lacks there.split, ← there.ends, ← back)

pub parts_last : (part s : List ℕ) (n : ℕ) → FindsText part s None → length (parts_between part n s) ≡ 1
parts_last part s zero lacks = refl
parts_last part s (suc n) lacks = rw (place_none part s lacks)

-- what is behind a place is shorter than the text
pub rest_shorter : (part s before rest : List ℕ) → 0 < length part → SplitsAroundMatch (FindsText part) s before rest → length rest < length s
rest_shorter part s before rest some (i, j, (lacks, there), front, back, le, len, short) = omega (arith, some, there.ends, short)
