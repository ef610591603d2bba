-- Where a text stands that is sought by its first byte.
use Rattle.std.proofs.Common.{◌≡◌, ℕ, ◌+◌, ◌<◌, ◌≤◌, inl, inr, List, length, drop, slice_index, None, Some, sym, ◌∙◌, ap, subst, arith, length-take, length-drop, get_or-drop}
use Rattle.std.proofs.lemmas.Bool.{cases_eq, cases_lt}
use Rattle.std.proofs.lemmas.List.{get_or-take}
use Rattle.memchr.specs.Find.{IsFirstByte, is_byte}
use Rattle.template_compiler_syntax.specs.Places.{StandsAt}
use Rattle.template_compiler_syntax.proofs.Searches.{byte_found, no_byte}

module _ (s text : List ℕ) (some : 0 < length text) where
  begins : (k : ℕ) → StandsAt s k text → slice_index s k ≡ slice_index text 0
  begins k stands =
      let place : k ≡ k + 0 = omega arith in
      ap (λ n. slice_index s n) place ∙
      (sym (get_or-drop k s 0 0) ∙
      (sym (get_or-take (length text) (drop k s) 0 0 some) ∙ ap (λ t. slice_index t 0) stands))

  inside : (k : ℕ) → StandsAt s k text → k < length s
  inside k stands = omega (arith, some, ap length stands, length-take (length text) (drop k s), length-drop k s)

  pub pair_found : (rest : List ℕ) (from at skipped : ℕ) → rest ≡ drop at s → IsFirstByte (is_byte (slice_index text 0)) rest (Some skipped) →
      ((k : ℕ) → from ≤ k → k < at → StandsAt s k text → ⊥) → (k : ℕ) → from ≤ k → k < at + skipped → StandsAt s k text → ⊥
  pair_found rest from at skipped e found none k above below stands =
      elim (cases_lt k at) [
        | inl before ↦ none k above before stands
        | inr behind ↦ (byte_found s rest at (slice_index text 0) skipped e found).2 k behind below (begins k stands)
      ]

  pub pair_past : (from place : ℕ) → ((k : ℕ) → from ≤ k → k < place → StandsAt s k text → ⊥) → (StandsAt s place text → ⊥) →
      (k : ℕ) → from ≤ k → k < place + 1 → StandsAt s k text → ⊥
  pair_past from place none here k above below stands =
      elim (cases_eq k place) [
        | inl same ↦ here (subst (λ n. StandsAt s n text) same stands)
        | inr other ↦ none k above (omega arith) stands
      ]

  pub pair_nowhere : (rest : List ℕ) (from at : ℕ) → rest ≡ drop at s → IsFirstByte (is_byte (slice_index text 0)) rest None →
      ((k : ℕ) → from ≤ k → k < at → StandsAt s k text → ⊥) → (k : ℕ) → from ≤ k → StandsAt s k text → ⊥
  pair_nowhere rest from at e never none k above stands =
      elim (cases_lt k at) [
        | inl before ↦ none k above before stands
        | inr behind ↦ no_byte s rest at (slice_index text 0) e never k behind (inside k stands) (begins k stands)
      ]
