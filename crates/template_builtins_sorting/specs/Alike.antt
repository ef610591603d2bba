-- Items whose keys are equal.
use Rattle.std.specs.Prelude.{Bool, not, List, [], ◌∷◌, ◌++◌, if◌then◌else◌}
use Rattle.std.specs.List.{filter}
use Rattle.std.specs.Ordering.{is_eq}
use Rattle.template_values_model.specs.Val.{Val}
use Rattle.template_values_core.specs.Order.{val_cmp}
use Rattle.template_builtins_sorting.specs.declared.keyed.Keyed.{Keyed}

abbrev pub alike : Keyed → Keyed → Bool
alike x y = is_eq (val_cmp x.key y.key)

-- each that is not alike one before it
abbrev pub distinct : List Keyed → List Keyed
distinct [] = []
distinct (x ∷ xs) = x ∷ filter (λ y. not (alike y x)) (distinct xs)

-- a run of items that are alike x, which goes on as long as what follows is alike it; then the other runs, each with its first item
abbrev pub runs_from : Keyed → List Val → List Keyed → List (Val × List Val)
runs_from x run [] = (x.item, run) ∷ []
runs_from x run (y ∷ ys) = if alike y x then runs_from x (run ++ y.item ∷ []) ys else (x.item, run) ∷ runs_from y (y.item ∷ []) ys

-- the items of neighbours that are alike, together
abbrev pub runs : List Keyed → List (Val × List Val)
runs [] = []
runs (x ∷ xs) = runs_from x (x.item ∷ []) xs
