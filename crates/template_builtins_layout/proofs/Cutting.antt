-- Lemmas on the front of a text.
use Rattle.std.proofs.Common.{◌≡◌, ℕ, List, [], ◌∷◌, ◌++◌, ◌-◌, length, take, refl, ap, arith}
use Rattle.std.specs.List.{slice_range}

pub take-front : (front rest : List ℕ) → take (length front) (front ++ rest) ≡ front
take-front [] rest = refl
take-front (x ∷ front) rest = ap (λ (xs : List ℕ). x ∷ xs) (take-front front rest)

pub front_is : (s front rest : List ℕ) (n : ℕ) → s ≡ front ++ rest → n ≡ length front → slice_range s 0 n ≡ front
front_is s front rest n parts len =
    let all : n - 0 ≡ length front = omega (arith, len) in
    rw (all, parts) (take-front front rest)
