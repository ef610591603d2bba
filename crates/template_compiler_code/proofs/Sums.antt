-- The bytes of texts, instruction by instruction.
use Rattle.std.proofs.Common.{◌≡◌, ℕ, ◌+◌, zero, suc, List, [], ◌∷◌, take, length, slice_get, min, ◌*◌, refl, sym, ap, ◌∙◌, add_assoc, arith}
use Rattle.std.specs.List.{sum_by}
use Rattle.std.proofs.lemmas.List.Sums.{sum_by-cons}
use Rattle.std.specs.Option.{option_map_or}

-- one item more
pub sum_by-next : {A : Type 0} (f : A → ℕ) (xs : List A) (k : ℕ)
    → sum_by f (take (suc k) xs) ≡ sum_by f (take k xs) + option_map_or f (slice_get xs k) 0
sum_by-next f [] zero = refl
sum_by-next f [] (suc k) = refl
sum_by-next f (x ∷ xs) zero = omega (arith, sum_by-cons f x [])
sum_by-next f (x ∷ xs) (suc k) =
    sum_by-cons f x (take (suc k) xs) ∙ ap (λ n. f x + n) (sum_by-next f xs k) ∙
    sym (add_assoc (f x) (sum_by f (take k xs)) (option_map_or f (slice_get xs k) 0)) ∙
    ap (λ n. n + option_map_or f (slice_get xs k) 0) (sym (sum_by-cons f x (take k xs)))

pub take-all : {A : Type 0} (xs : List A) → take (length xs) xs ≡ xs
take-all [] = refl
take-all (x ∷ xs) = ap (λ ys. x ∷ ys) (take-all xs)

-- sums that stop at a bound
pub bounded-next : (bound sum more raw next : ℕ) → raw ≡ min sum bound → next ≡ min (raw + more) bound → next ≡ min (sum + more) bound
bounded-next bound sum more raw next before after = omega (arith, before, after)

pub bounded-twice : (bound sum raw twice : ℕ) → raw ≡ min sum bound → twice ≡ min (raw * 2) bound → twice ≡ min (2 * sum) bound
bounded-twice bound sum raw twice before after = omega (arith, before, after)
