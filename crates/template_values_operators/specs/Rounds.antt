-- How often a list is put behind the others when it is repeated.
use Rattle.std.specs.Prelude.{◌≡◌, ℕ, ◌⊎◌}

-- n times a list of this length are `count` times that list
abbrev pub IsAsOften : ℕ → ℕ → ℕ → Type 0
IsAsOften n count len = (n ≡ count) ⊎ (len ≡ 0)
