-- Lists the other way.
use Rattle.std.proofs.Common.{◌≡◌, List, [], ◌∷◌, ◌++◌, map, reverse, refl, ap, sym, ◌∙◌}
use Rattle.std.proofs.lemmas.List.{reverse-append}

map_onto : {A B : Type 0} (f : A → B) (xs ys : List A) → map f (xs ++ ys) ≡ map f xs ++ map f ys
map_onto f [] ys = refl
map_onto f (x ∷ xs) ys = ap (λ zs. f x ∷ zs) (map_onto f xs ys)

pub reversed : {A B : Type 0} (f : A → B) (xs : List A) → map f (reverse xs) ≡ reverse (map f xs)
reversed f [] = refl
reversed f (x ∷ xs) =
    ap (map f) (reverse-append (x ∷ []) xs)
    ∙ map_onto f (reverse xs) (x ∷ [])
    ∙ ap (λ zs. zs ++ f x ∷ []) (reversed f xs)
    ∙ sym (reverse-append (f x ∷ []) (map f xs))
