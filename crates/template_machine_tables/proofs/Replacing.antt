-- One of several namespaces is another one.
use Rattle.std.proofs.Common.{◌≡◌, ◌∙◌, ℕ, zero, suc, ◌<◌, List, [], ◌∷◌, length, get_or, set, Result, Ok, Err, OnOk, Option, Some, IsSome, IfSome, slice_get, sym, ap, subst, arith}
use Rattle.std.proofs.lemmas.Option.{slice_get-get_or}

-- what is there stands within
pub there_within : {X : Type 0} (xs : List X) (n : ℕ) → IsSome (slice_get xs n) → n < length xs
there_within [] n there = absurd (cc)
there_within (x ∷ xs) zero there = omega arith
there_within (x ∷ xs) (suc n) there = let rest : n < length xs = there_within xs n there in omega arith

-- where one changed, it stands in the place of what was there
pub changed_there : {T E X : Type 0} (result : Result T E) (change : X → X) (xs : List X) (n : ℕ) (old new : X) → IsSome (slice_get xs n)
    → old ≡ get_or xs n old → OnOk result (new ≡ change old)
    → OnOk result (IfSome (slice_get xs n) (λ x. set xs n new ≡ set xs n (change x)))
changed_there {T} {E} {X} (Ok t) change xs n old new there at is =
    let found : slice_get xs n ≡ Some old = slice_get-get_or xs n old (there_within xs n there) ∙ ap Some (sym at) in
    subst (λ (o : Option X). IfSome o (λ x. set xs n new ≡ set xs n (change x))) (sym found)
    (ap (set xs n) is)
changed_there (Err e) change xs n old new there at is = tt
