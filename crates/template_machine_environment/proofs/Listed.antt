-- Of a list of templates: what a name finds there, and the order of their names.
use Rattle.std.proofs.Common.{◌≡◌, ap, refl, Bool, true, false, cond, List, [], ◌∷◌, Option, Some, map}
use Rattle.std.specs.List.{find}
use Rattle.std.specs.Option.{option_map}

by_test : {T C Y : Type 0} (f : T → C) (y : C → Y) (t : T) (b : Bool) (found : Option C) (there : Option T) → option_map y found ≡ option_map (λ t. y (f t)) there
    → option_map y (cond b (Some (f t)) found) ≡ option_map (λ t. y (f t)) (cond b (Some t) there)
by_test f y t true found there same = refl
by_test f y t false found there same = same

-- what is found among what a function makes of them
pub found_by : {T C Y : Type 0} (f : T → C) (y : C → Y) (p : C → Bool) (ts : List T)
    → option_map y (find p (map f ts)) ≡ option_map (λ t. y (f t)) (find (λ t. p (f t)) ts)
found_by f y p [] = refl
found_by f y p (t ∷ ts) = by_test f y t (p (f t)) (find p (map f ts)) (find (λ t. p (f t)) ts) (found_by f y p ts)

pub map_twice : {T C Y : Type 0} (f : T → C) (y : C → Y) (ts : List T) → map y (map f ts) ≡ map (λ t. y (f t)) ts
map_twice f y [] = refl
map_twice f y (t ∷ ts) = ap (λ ys. y (f t) ∷ ys) (map_twice f y ts)
