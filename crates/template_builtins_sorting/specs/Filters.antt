-- The filters that go by an order.
use Rattle.std.specs.Prelude.{ℕ, false, List, [], ◌∷◌, map, Option, None, Some, Result, Ok, codes}
use Rattle.template_values_errors.specs.declared.ErrorKind.{ErrorKind}
use Rattle.template_values_model.specs.Val.{Val, undefined}
use Rattle.template_values_operators.specs.Kinds.{list_made}
use Rattle.template_callables.specs.Callables.{View}
use Rattle.template_builtins_arguments.specs.Answers.{Made, then as after, told}
use Rattle.template_builtins_arguments.specs.Arguments.{arguments, flag_from}
use Rattle.template_builtins_arguments.specs.Parts.{items_of}
use Rattle.template_builtins_sorting.specs.Alike.{distinct}
use Rattle.template_builtins_sorting.specs.Attributes.{one_path, several_paths}
use Rattle.template_builtins_sorting.specs.Groups.{grouped}
use Rattle.template_builtins_sorting.specs.Keys.{keyed}
use Rattle.template_builtins_sorting.specs.Pairs.{sorted_map}
use Rattle.template_builtins_sorting.specs.Sorted.{first_of, falls, listed_in_order, rises}
use Rattle.template_builtins_sorting.specs.declared.keyed.Keyed.{Keyed}
use Rattle.template_builtins_sorting.specs.declared.filter.SortingFilter.{SortingFilter}
use Rattle.template_builtins_sorting.specs.declared.filter.SortingFilter.TheVariants.{Sort, Unique, Min, Max, DictSort, GroupBy}

-- the items with their keys, under the arguments after `reverse`: whether case counts, and paths with commas between
unfoldable pub keyed_by_several : View → (ℕ → Option Val) → List Val → Result (List Keyed) ErrorKind
keyed_by_several view given items =
    after (flag_from view (given 1) false) (λ is_cased.
    after (several_paths (given 2)) (λ paths.
    keyed view paths None is_cased items))

-- the items in the order of their keys
unfoldable pub sorted_items : View → (ℕ → Option Val) → List Val → Made
sorted_items view given items =
    after (flag_from view (given 0) false) (λ is_reversed.
    after (keyed_by_several view given items) (listed_in_order is_reversed))

-- of a value and its arguments
unfoldable pub sorted : View → Val → List Val → Made
sorted view v vs =
    after (arguments (codes "reverse" ∷ codes "case_sensitive" ∷ codes "attribute" ∷ []) 0 vs) (λ given.
    after (items_of view v) (sorted_items view given))

-- the items with their keys, where whether case counts and a path are the only arguments
unfoldable pub keyed_by_one : View → (ℕ → Option Val) → List Val → Result (List Keyed) ErrorKind
keyed_by_one view given items =
    after (flag_from view (given 0) false) (λ is_cased.
    after (one_path (given 1)) (λ paths.
    keyed view paths None is_cased items))

-- of a value and its arguments
unfoldable pub keyed_items : View → Val → List Val → Result (List Keyed) ErrorKind
keyed_items view v vs =
    after (arguments (codes "case_sensitive" ∷ codes "attribute" ∷ []) 0 vs) (λ given.
    after (items_of view v) (keyed_by_one view given))

-- the items whose keys are not equal to one before them
unfoldable pub unique : View → Val → List Val → Made
unique view v vs = after (keyed_items view v vs) (λ ks. told (list_made (map (λ k. k.item) (distinct ks))))

-- an item, or undefined where there is none
abbrev pub item_or_undefined : Option Keyed → Val
item_or_undefined None = undefined
item_or_undefined (Some k) = k.item

-- the first item of the least key
unfoldable pub least : View → Val → List Val → Made
least view v vs = after (keyed_items view v vs) (λ ks. Ok (item_or_undefined (first_of rises ks)))

-- the first item of the greatest key
unfoldable pub greatest : View → Val → List Val → Made
greatest view v vs = after (keyed_items view v vs) (λ ks. Ok (item_or_undefined (first_of falls ks)))

-- what a filter makes of a value and its arguments
abbrev pub sorting_filtered : SortingFilter → View → Val → List Val → Made
sorting_filtered Sort = sorted
sorting_filtered Unique = unique
sorting_filtered Min = least
sorting_filtered Max = greatest
sorting_filtered DictSort = sorted_map
sorting_filtered GroupBy = grouped
