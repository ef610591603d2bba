-- What the filters on lists make of a value and the arguments after it.
use Rattle.std.specs.Prelude.{List, [], ◌∷◌, pos, Ok, codes}
use Rattle.template_values_model.specs.Val.{Val, int}
use Rattle.template_callables.specs.Callables.{View}
use Rattle.template_builtins_arguments.specs.Answers.{Made, then}
use Rattle.template_builtins_arguments.specs.Arguments.{arguments}
use Rattle.template_builtins_arguments.specs.Parts.{items_of}
use Rattle.template_builtins_paths.specs.Items.{parts_at, path_from}
use Rattle.template_builtins_lists.specs.Chains.{all_by_place, items_of_all}
use Rattle.template_builtins_lists.specs.Counts.{count_of}
use Rattle.template_builtins_lists.specs.Joins.{joined, printable}
use Rattle.template_builtins_lists.specs.Lines.{batched, count_from, sliced}
use Rattle.template_builtins_lists.specs.Lists.{first_of, last_of, list_from, pairs_of_map, reversed}
use Rattle.template_builtins_lists.specs.Zips.{zipped_with}
use Rattle.template_builtins_lists.specs.declared.filter.ListFilter.{ListFilter}
use Rattle.template_builtins_lists.specs.declared.filter.ListFilter.TheVariants as filters

-- how many items there are; of bytes how many bytes
unfoldable pub counted : View → Val → List Val → Made
counted view v vs = then (arguments [] 0 vs) (λ given. then (count_of view v) (λ n. Ok (int (pos n))))

-- the items
unfoldable pub listed : View → Val → List Val → Made
listed view v vs = then (arguments [] 0 vs) (λ given. then (items_of view v) list_from)

-- the first and the last of them
unfoldable pub first : View → Val → List Val → Made
first view v vs = then (arguments [] 0 vs) (λ given. then (items_of view v) (λ items. Ok (first_of items)))

unfoldable pub last : View → Val → List Val → Made
last view v vs = then (arguments [] 0 vs) (λ given. then (items_of view v) (λ items. Ok (last_of items)))

-- the other way
unfoldable pub turned : View → Val → List Val → Made
turned view v vs = then (arguments [] 0 vs) (λ given. reversed view v)

-- their printed forms, or those of their parts at an attribute, with a text between them
unfoldable pub joining : View → Val → List Val → Made
joining view v vs =
    then (arguments (codes "d" ∷ codes "attribute" ∷ []) 0 vs) (λ given.
    then (items_of view v) (λ items.
    then (printable view (given 0)) (λ shown.
    then (path_from (given 1)) (λ path.
    then (parts_at view path items) (λ parts.
    joined view (given 0) parts)))))

-- the pairs of a map as tuples
unfoldable pub pairs : View → Val → List Val → Made
pairs view v vs = then (arguments [] 0 vs) (λ given. pairs_of_map view v)

-- the items of the value and of all arguments
unfoldable pub chained : View → Val → List Val → Made
chained view v vs = then (all_by_place vs) (λ others. then (items_of_all view (v ∷ others)) list_from)

-- tuples of the items of the value and of the arguments, side by side
unfoldable pub zipped : View → Val → List Val → Made
zipped view v vs = then (all_by_place vs) (zipped_with view v)

-- the items in lists of so many
unfoldable pub batches : View → Val → List Val → Made
batches view v vs =
    then (arguments (codes "linecount" ∷ codes "fill_with" ∷ []) 1 vs) (λ given.
    then (items_of view v) (λ items.
    then (count_from (given 0)) (λ n.
    batched n (given 1) items)))

-- the items in so many lists
unfoldable pub slices : View → Val → List Val → Made
slices view v vs =
    then (arguments (codes "slices" ∷ codes "fill_with" ∷ []) 1 vs) (λ given.
    then (items_of view v) (λ items.
    then (count_from (given 0)) (λ n.
    sliced n (given 1) items)))

abbrev pub list_filtered : ListFilter → View → Val → List Val → Made
list_filtered filters.Length = counted
list_filtered filters.List = listed
list_filtered filters.First = first
list_filtered filters.Last = last
list_filtered filters.Reverse = turned
list_filtered filters.Join = joining
list_filtered filters.Items = pairs
list_filtered filters.Batch = batches
list_filtered filters.Slice = slices
list_filtered filters.Zip = zipped
list_filtered filters.Chain = chained
