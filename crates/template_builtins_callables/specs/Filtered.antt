-- What a filter makes.
use Rattle.std.specs.Prelude.{Bool, true, false, not, ◌&&◌, nat_le, if◌then◌else◌, List, [], ◌∷◌, length, Result, Ok, Err}
use Rattle.template_values_errors.specs.declared.ErrorKind.{ErrorKind}
use Rattle.template_values_errors.specs.declared.ErrorKind.TheVariants.{TooManyArguments}
use Rattle.template_values_model.specs.declared.TheConstants.{DEPTH_LIMIT}
use Rattle.template_values_model.specs.Val.{Val}
use Rattle.template_callables.specs.Callables.{View}
use Rattle.template_builtins_arguments.specs.Answers.{Made, then as after}
use Rattle.template_builtins_arguments.specs.Parts.{items_of}
use Rattle.template_builtins_texts.specs.Filters.{text_filtered}
use Rattle.template_builtins_layout.specs.Filters.{layout_filtered}
use Rattle.template_builtins_pieces.specs.Answers.{piece_filtered}
use Rattle.template_builtins_formats.specs.Filters.{format_filtered}
use Rattle.template_builtins_web.specs.Filters.{web_filtered}
use Rattle.template_builtins_decimals.specs.Filters.{decimal_filtered}
use Rattle.template_builtins_lists.specs.Filters.{list_filtered}
use Rattle.template_builtins_sorting.specs.Filters.{sorting_filtered}
use Rattle.template_builtins_numbers.specs.Filters.{value_filtered}
use Rattle.template_builtins_paths.specs.Items.{each}
use Rattle.template_builtins_callables.specs.Builtins.{filter_by}
use Rattle.template_builtins_callables.specs.Each.{is_alone, listed, parts_made, selected, selected_by_part}
use Rattle.template_builtins_callables.specs.declared.filter.Filter.{Filter}
use Rattle.template_builtins_callables.specs.declared.filter.Filter.TheVariants as filters
use Rattle.template_builtins_callables.specs.declared.each.EachFilter.{EachFilter}
use Rattle.template_builtins_callables.specs.declared.each.EachFilter.TheVariants.{Map, Select, Reject, SelectAttr, RejectAttr}

-- of a filter that goes over items; `map` by its keywords
abbrev pub each_filtered : EachFilter → View → Val → List Val → Made
each_filtered Map view v vs = parts_made view v vs
each_filtered Select view v vs = selected true view v vs
each_filtered Reject view v vs = selected false view v vs
each_filtered SelectAttr view v vs = selected_by_part true view v vs
each_filtered RejectAttr view v vs = selected_by_part false view v vs

-- of each filter, where no other filter is applied
abbrev pub alone_filtered : Filter → View → Val → List Val → Made
alone_filtered (filters.Text filter) view v vs = text_filtered filter view v vs
alone_filtered (filters.Layout filter) view v vs = layout_filtered filter view v vs
alone_filtered (filters.Piece filter) view v vs = piece_filtered filter view v vs
alone_filtered (filters.Format filter) view v vs = format_filtered filter view v vs
alone_filtered (filters.Web filter) view v vs = web_filtered filter view v vs
alone_filtered (filters.List filter) view v vs = list_filtered filter view v vs
alone_filtered (filters.Sorting filter) view v vs = sorting_filtered filter view v vs
alone_filtered (filters.Value filter) view v vs = value_filtered filter view v vs
alone_filtered (filters.Decimal filter) view v vs = decimal_filtered filter view v vs
alone_filtered (filters.Each filter) view v vs = each_filtered filter view v vs

abbrev pub is_map_kind : EachFilter → Bool
is_map_kind Map = true
is_map_kind Select = false
is_map_kind Reject = false
is_map_kind SelectAttr = false
is_map_kind RejectAttr = false

abbrev pub is_map : Filter → Bool
is_map (filters.Text filter) = false
is_map (filters.Layout filter) = false
is_map (filters.Piece filter) = false
is_map (filters.Format filter) = false
is_map (filters.Web filter) = false
is_map (filters.List filter) = false
is_map (filters.Sorting filter) = false
is_map (filters.Value filter) = false
is_map (filters.Decimal filter) = false
is_map (filters.Each filter) = is_map_kind filter

-- `map` has the name of a filter first
abbrev pub applies_other : Filter → Val → List Val → Bool
applies_other filter name rest = is_map filter && not (is_alone name rest)

-- a filter within filters has at most so many arguments as values may nest deep
abbrev pub few : List Val → Result (Unit {0}) ErrorKind
few rest = if nat_le (length rest) DEPTH_LIMIT then Ok tt else Err TooManyArguments

-- what each item comes to under the filter of a name, with the arguments after it
abbrev pub mapped : (Filter → Val → Made) → View → Val → Val → List Val → Made
mapped apply view v name rest =
    after (few rest) (λ u.
    after (items_of view v) (λ items.
    after (filter_by name) (λ filter.
    listed (each (apply filter) items))))

-- what a filter makes of a value, by its arguments
unfoldable pub made_with : List Val → Filter → View → Val → Made
made_with [] filter view v = alone_filtered filter view v []
made_with (name ∷ rest) filter view v =
    if applies_other filter name rest
    then mapped (λ other item. made_with rest other view item) view v name rest
    else alone_filtered filter view v (name ∷ rest)

abbrev pub filtered : Filter → View → Val → List Val → Made
filtered filter view v vs = made_with vs filter view v
