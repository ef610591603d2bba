-- The places that a slice picks, as the program holds them.
use Rattle.std.specs.Prelude.{ℕ, ◌<◌, ℤ, pos, ◌+ℤ◌, ◌*ℤ◌, ◌≤ℤ◌, ◌<ℤ◌}
use Rattle.template_values_items.specs.declared.slices.Places.{Places}

-- the place of the k-th item
abbrev pub place_at : Places → ℕ → ℤ
place_at p k = p.start +ℤ pos k *ℤ p.step

-- each is a place of a list of this length
abbrev pub AreWithin : Places → ℕ → Type 0
AreWithin p n = (k : ℕ) → k < p.count → (pos 0 ≤ℤ place_at p k) × (place_at p k <ℤ pos n)
