-- What the methods of maps make.
use Rattle.std.specs.Prelude.{Bool, true, false, if◌then◌else◌, List, [], ◌∷◌, slice_get, unwrap_or, Result, Ok}
use Rattle.template_values_errors.specs.declared.ErrorKind.{ErrorKind}
use Rattle.template_values_model.specs.Val.{Val, Pairs, none, map, keyword_map, no_pairs, pairs_more}
use Rattle.template_values_core.specs.Reads.{value_under}
use Rattle.template_callables.specs.Callables.{View}
use Rattle.template_builtins_arguments.specs.Answers.{Made, then as after, refused}
use Rattle.template_builtins_arguments.specs.Arguments.{arguments}
use Rattle.template_builtins_lists.specs.Filters.{list_filtered}
use Rattle.template_builtins_lists.specs.Lists.{list_from}
use Rattle.template_builtins_lists.specs.declared.filter.ListFilter.TheVariants as filters
use Rattle.template_builtins_methods.specs.Placed.{placed, first_of}
use Rattle.template_builtins_methods.specs.declared.maps.MapMethod.{MapMethod}
use Rattle.template_builtins_methods.specs.declared.maps.MapMethod.TheVariants as methods

-- a map or a keyword map
abbrev pub is_map : Val → Bool
is_map (map ps) = true
is_map (keyword_map ps) = true
is_map _ = false

-- its pairs
abbrev pub pairs_of_map : Val → Result Pairs ErrorKind
pairs_of_map (map ps) = Ok ps
pairs_of_map (keyword_map ps) = Ok ps
pairs_of_map _ = refused

-- the values that stand under the keys
abbrev pub values_of : Pairs → List Val
values_of no_pairs = []
values_of (pairs_more k v ps) = v ∷ values_of ps

-- the pairs as tuples, as the filter of that name makes them
unfoldable pub items : View → Val → List Val → Made
items view v vs = if is_map v then list_filtered filters.Items view v vs else refused

-- the keys, which are the items of a loop over the map
unfoldable pub keys : View → Val → List Val → Made
keys view v vs = if is_map v then list_filtered filters.List view v vs else refused

unfoldable pub values : Val → List Val → Made
values v vs = after (arguments [] 0 vs) (λ given. after (pairs_of_map v) (λ ps. list_from (values_of ps)))

-- what stands under a key; else the second argument, or none
abbrev pub found_or : List Val → Val → Val → Val
found_or given v key = unwrap_or (value_under key v) (unwrap_or (slice_get given 1) none)

unfoldable pub get : Val → List Val → Made
get v vs =
    after (placed 1 2 vs) (λ given.
    if is_map v then after (first_of given) (λ key. Ok (found_or given v key)) else refused)

abbrev pub map_called : MapMethod → View → Val → List Val → Made
map_called methods.Items view v vs = items view v vs
map_called methods.Keys view v vs = keys view v vs
map_called methods.Values view v vs = values v vs
map_called methods.Get view v vs = get v vs
