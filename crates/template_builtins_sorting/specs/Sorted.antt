-- The stable order of items by their keys.
use Rattle.std.specs.Prelude.{Bool, true, false, List, [], ◌∷◌, Option, None, Some, slice_get, map, if◌then◌else◌}
use Rattle.std.specs.Ordering.{is_lt}
use Rattle.template_values_core.specs.Order.{val_cmp}
use Rattle.template_values_operators.specs.Kinds.{list_made}
use Rattle.template_builtins_arguments.specs.Answers.{Made, told}
use Rattle.template_builtins_sorting.specs.declared.keyed.Keyed.{Keyed}

-- x behind those that stand before it, and in front of all others
abbrev pub put_in : {T : Type 0} → (T → T → Bool) → T → List T → List T
put_in before x [] = x ∷ []
put_in before x (y ∷ ys) = if before y x then y ∷ put_in before x ys else x ∷ y ∷ ys

-- in order; what is equal keeps its order
abbrev pub in_order : {T : Type 0} → (T → T → Bool) → List T → List T
in_order before [] = []
in_order before (x ∷ xs) = put_in before x (in_order before xs)

-- the first in order: of equal ones the first
abbrev pub first_of : {T : Type 0} → (T → T → Bool) → List T → Option T
first_of before xs = slice_get (in_order before xs) 0

-- which of two comes first: x, or one that is behind it in the list
abbrev pub first_of_two : {T : Type 0} → (T → T → Bool) → T → Option T → T
first_of_two before x None = x
first_of_two before x (Some y) = if before y x then y else x

-- by keys that rise
abbrev pub rises : Keyed → Keyed → Bool
rises x y = is_lt (val_cmp x.key y.key)

-- by keys that fall
abbrev pub falls : Keyed → Keyed → Bool
falls x y = rises y x

abbrev pub stands_before : Bool → Keyed → Keyed → Bool
stands_before false = rises
stands_before true = falls

-- the list of the items in the order of their keys
unfoldable pub listed_in_order : Bool → List Keyed → Made
listed_in_order is_reversed ks = told (list_made (map (λ k. k.item) (in_order (stands_before is_reversed) ks)))
