-- Names with one more at the end.
use Rattle.std.proofs.Common.{◌≡◌, ℕ, List, [], ◌∷◌, ◌++◌, refl, ap}
use Rattle.std.specs.Borrow.{Bor}
use Rattle.template_compiler_sources.specs.Waiting.{texts_in}

pub texts_push : (xs : List (Bor (List ℕ))) (x : Bor (List ℕ)) → texts_in (xs ++ x ∷ []) ≡ texts_in xs ++ x.now ∷ []
texts_push [] x = refl
texts_push (y ∷ xs) x = ap (λ ts. y.now ∷ ts) (texts_push xs x)
