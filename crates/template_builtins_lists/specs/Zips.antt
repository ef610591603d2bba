-- The items of several values side by side.
use Rattle.std.specs.Prelude.{ℕ, min, List, [], ◌∷◌, length, slice_get, Result}
use Rattle.std.specs.List.{filter_map, fold, range_with_len}
use Rattle.template_values_errors.specs.declared.ErrorKind.{ErrorKind}
use Rattle.template_values_model.specs.Val.{Val}
use Rattle.template_callables.specs.Callables.{View}
use Rattle.template_builtins_arguments.specs.Answers.{Made, then as after}
use Rattle.template_builtins_arguments.specs.Parts.{items_of}
use Rattle.template_builtins_paths.specs.Items.{each}
use Rattle.template_builtins_lists.specs.Lists.{list_from, tuple_from}

-- how many items the shortest has
abbrev pub shortest : List (List Val) → ℕ
shortest [] = 0
shortest (items ∷ lists) = fold (λ n others. min n (length others)) (length items) lists

-- the item of a number of each
abbrev pub row_at : List (List Val) → ℕ → List Val
row_at lists k = filter_map (λ items. slice_get items k) lists

unfoldable pub tuple_at : List (List Val) → ℕ → Made
tuple_at lists k = tuple_from (row_at lists k)

-- such rows as tuples, as many as the shortest has items
abbrev pub rows_of : List (List Val) → Result (List Val) ErrorKind
rows_of lists = each (tuple_at lists) (range_with_len 0 (shortest lists))

-- the items of each value
abbrev pub lists_of : View → List Val → Result (List (List Val)) ErrorKind
lists_of view vs = each (items_of view) vs

unfoldable pub zipped_with : View → Val → List Val → Made
zipped_with view v others = after (lists_of view (v ∷ others)) (λ lists. after (rows_of lists) list_from)
