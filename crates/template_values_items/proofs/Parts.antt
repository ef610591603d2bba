-- A text has a part just where the part's bytes stand in it.
use Rattle.std.proofs.Common.{◌≡◌, ℕ, Bool, true, List, [], ◌∷◌, ◌++◌, length, drop, eqb, ◌↔◌, ◌⊎◌, inl, inr, refl, ap, Decides}
use Rattle.std.specs.List.{starts_with}
use Rattle.std.specs.Str.Iter.{HasSubslice}
use Rattle.std.proofs.lemmas.Bool.Decides.{Decides-eqb, Decides-or, Decides-like, same_from_decides}
use Rattle.std.proofs.lemmas.Slice.Eq.{starts_is}
use Rattle.template_values_operators.specs.Contains.{has_part}

abbrev Begins : List ℕ → List ℕ → Type 0
Begins s p = (rest : List ℕ) × (s ≡ p ++ rest)

Decides-begins : (s p : List ℕ) → Decides (starts_with eqb s p) (Begins s p)
Decides-begins s p = (
  λ t. (drop (length p) s, (starts_is Decides-eqb s p _ refl).0 t),
  λ h. (starts_is Decides-eqb s p _ refl).1 h.0 h.1,
)

nothing_before : (a b : List ℕ) → [] ≡ a ++ b → [] ≡ b
nothing_before [] b e = e
nothing_before (x ∷ a) b e = absurd (cc)

placed : (c : ℕ) (s p : List ℕ) → Begins (c ∷ s) p ⊎ HasSubslice s p → HasSubslice (c ∷ s) p
placed c s p (inl begins) = ([], begins.0, begins.1)
placed c s p (inr inside) = (c ∷ inside.0, inside.1, ap (λ (xs : List ℕ). c ∷ xs) inside.2)

place_split : (c : ℕ) (s p a b : List ℕ) → c ∷ s ≡ a ++ (p ++ b) → Begins (c ∷ s) p ⊎ HasSubslice s p
place_split c s p [] b e = inl (b, e)
place_split c s p (x ∷ a) b e = inr (a, b, cc)

Decides-has_part : (s p : List ℕ) → Decides (has_part s p) (HasSubslice s p)
Decides-has_part [] p = Decides-like _ (λ h. ([], h.0, h.1)) (λ h. (h.1, nothing_before h.0 (p ++ h.1) h.2)) (Decides-begins [] p)
Decides-has_part (c ∷ s) p =
    Decides-like _ (placed c s p) (λ h. place_split c s p h.0 h.1 h.2) (Decides-or _ _ (Decides-begins (c ∷ s) p) (Decides-has_part s p))

pub has_part-is : (r : Bool) (p s : List ℕ) → (r ≡ true) ↔ HasSubslice s p → r ≡ has_part s p
has_part-is r p s h = same_from_decides r (has_part s p) h (Decides-has_part s p)
