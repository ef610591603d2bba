-- The first in order, found from the last item on.
use Rattle.std.proofs.Common.{◌≡◌, ◌∙◌, sym, ap, refl, List, [], ◌∷◌, ◌++◌, Bool, true, false, Option, None, Some}
use Rattle.std.specs.Prelude.{if◌then◌else◌, slice_get}
use Rattle.template_builtins_sorting.specs.Sorted.{put_in, in_order, first_of, first_of_two}

module _ {T : Type 0} (before : T → T → Bool) where
  -- the first of items before those that one is the first of
  abbrev pub first_with : List T → Option T → Option T
  first_with [] first = first
  first_with (x ∷ xs) first = Some (first_of_two before x (first_with xs first))

  pub first_with-push : (xs : List T) (x : T) (first : Option T)
      → first_with (xs ++ (x ∷ [])) first ≡ first_with xs (Some (first_of_two before x first))
  first_with-push [] x first = refl
  first_with-push (y ∷ xs) x first = ap (λ (o : Option T). Some (first_of_two before y o)) (first_with-push xs x first)

  first-put_in : (x : T) (ys : List T) → slice_get (put_in before x ys) 0 ≡ Some (first_of_two before x (slice_get ys 0))
  first-put_in x [] = refl
  first-put_in x (y ∷ ys) = by (before y x)
    where
      by : (b : Bool) → slice_get (if b then y ∷ put_in before x ys else x ∷ y ∷ ys) 0 ≡ Some (if b then y else x)
      by true = refl
      by false = refl

  pub first_with-none : (xs : List T) → first_with xs None ≡ first_of before xs
  first_with-none [] = refl
  first_with-none (x ∷ xs) =
      ap (λ (o : Option T). Some (first_of_two before x o)) (first_with-none xs) ∙ sym (first-put_in x (in_order before xs))
