-- Lemmas on the places where a text stands in another.
use Rattle.std.proofs.Common.{◌≡◌, ℕ, zero, suc, ◌<◌, ◌≤◌, List, [], ◌∷◌, ◌++◌, length, take, drop, Bool, true, false, bytes_eq, None, Some, refl, sym, ap, ◌∙◌, arith, length-append}
use Rattle.std.specs.Str.Pattern.{LacksTextAt}
use Rattle.std.proofs.lemmas.Bool.{false_from_ne_true}
use Rattle.std.proofs.lemmas.List.{take-append-drop}
use Rattle.std.proofs.lemmas.Slice.Eq.{bytes_eq-Decides}
use Rattle.template_builtins_texts.proofs.Ends.{take-front}
use Rattle.template_builtins_pieces.specs.Cuts.{last_place}

abbrev stands : List ℕ → List ℕ → Bool
stands old s = bytes_eq old (take (length old) s)

stands_from : (old s rest : List ℕ) → s ≡ old ++ rest → stands old s ≡ true
stands_from old s rest is = (bytes_eq-Decides old (take (length old) s)).1 (sym (ap (take (length old)) is ∙ take-front old rest))

stands_not : (old s : List ℕ) → LacksTextAt old s 0 → stands old s ≡ false
stands_not old s lacks =
    false_from_ne_true (stands old s) (λ there.
    lacks (drop (length old) s)
    (sym (take-append-drop (length old) s)
    ∙ ap (λ (x : List ℕ). x ++ drop (length old) s) (sym ((bytes_eq-Decides old (take (length old) s)).0 there))))

-- where a text stands nowhere
pub last_none : (old s : List ℕ) → ((i : ℕ) → i ≤ length s → LacksTextAt old s i) → last_place old s ≡ None
last_none old [] lacks = refl
last_none old (b ∷ bs) lacks =
    rw (stands_not old (b ∷ bs) (lacks 0 (omega arith)), last_none old bs (λ i h. lacks (suc i) (omega (arith, h)))) refl

-- where it stands at a place, and at none behind it
pub last_some : (old s rest : List ℕ) (i : ℕ) → 0 < length old → ((k : ℕ) → i < k → k ≤ length s → LacksTextAt old s k) → drop i s ≡ old ++ rest → last_place old s ≡ Some i
last_some old [] rest zero some behind is = absurd (omega (arith, some, ap length is, length-append old rest))
last_some old [] rest (suc i) some behind is = absurd (omega (arith, some, ap length is, length-append old rest))
last_some old (b ∷ bs) rest zero some behind is =
    rw (stands_from old (b ∷ bs) rest is, last_none old bs (λ k h. behind (suc k) (omega arith) (omega (arith, h)))) refl
last_some old (b ∷ bs) rest (suc i) some behind is =
    rw (last_some old bs rest i some (λ k h l. behind (suc k) (omega (arith, h)) (omega (arith, l))) is) refl
