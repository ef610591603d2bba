-- Lemmas on the last space of a text.
use Rattle.std.proofs.Common.{◌≡◌, ◌<◌, ◌-◌, ◌≢◌, ℕ, zero, suc, List, [], ◌∷◌, length, take, get_or, eqb, true, false, None, Some, refl, arith}
use Rattle.std.proofs.lemmas.Bool.Decides.{nat_tests}
use Rattle.std.specs.List.{slice_range}
use Rattle.template_builtins_layout.specs.Fronts.{before_last_space, before_space}

is_no_space : (b : ℕ) → b ≢ 32 → eqb b 32 ≡ false
is_no_space b other = grind (arith, nat_tests)

is_space : (b : ℕ) → b ≡ 32 → eqb b 32 ≡ true
is_space b same = grind (arith, nat_tests)

none_before : (s : List ℕ) → ((i : ℕ) → i < length s → get_or s i 0 ≢ 32) → before_space s ≡ None
none_before [] none = refl
none_before (b ∷ bs) none =
    rw (none_before bs (λ i h. none (suc i) (omega (arith, h))), is_no_space b (none 0 (omega arith)))

some_before : (s : List ℕ) (k : ℕ) → k < length s → get_or s k 0 ≡ 32 → ((i : ℕ) → k < i → i < length s → get_or s i 0 ≢ 32)
    → before_space s ≡ Some (take k s)
some_before [] k within here last = absurd (omega arith)
some_before (b ∷ bs) zero within here last =
    rw (none_before bs (λ i h. last (suc i) (omega arith) (omega (arith, h))), is_space b here)
some_before (b ∷ bs) (suc k) within here last =
    rw (some_before bs k (omega arith) here (λ i h w. last (suc i) (omega (arith, h)) (omega (arith, w))))

pub no_last_space : (s : List ℕ) → ((i : ℕ) → i < length s → get_or s i 0 ≢ 32) → before_last_space s ≡ s
no_last_space s none = rw (none_before s none)

pub last_space : (s : List ℕ) (k : ℕ) → k < length s → get_or s k 0 ≡ 32 → ((i : ℕ) → k < i → i < length s → get_or s i 0 ≢ 32)
    → before_last_space s ≡ take k s
last_space s k within here last = rw (some_before s k within here last)

pub range_is : (s : List ℕ) (n : ℕ) → slice_range s 0 n ≡ take n s
range_is s n = let all : n - 0 ≡ n = omega arith in rw all
