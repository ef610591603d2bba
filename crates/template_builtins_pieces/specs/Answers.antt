-- What the filters and methods that cut and pad texts make of a value and the arguments after it.
use Rattle.std.specs.Prelude.{List}
use Rattle.template_values_model.specs.Val.{Val}
use Rattle.template_callables.specs.Callables.{View}
use Rattle.template_builtins_arguments.specs.Answers.{Made}
use Rattle.template_builtins_pieces.specs.Affixes.{remove_prefix, remove_suffix}
use Rattle.template_builtins_pieces.specs.Joins.{join}
use Rattle.template_builtins_pieces.specs.Padding.{pad, zero_fill}
use Rattle.template_builtins_pieces.specs.Partitions.{partition}
use Rattle.template_builtins_pieces.specs.Replacing.{replace}
use Rattle.template_builtins_pieces.specs.Splitting.{split_filter, split_lines, split_method}
use Rattle.template_builtins_pieces.specs.declared.filter.PieceFilter.{PieceFilter}
use Rattle.template_builtins_pieces.specs.declared.filter.PieceFilter.TheVariants as filters
use Rattle.template_builtins_pieces.specs.declared.method.PieceMethod.{PieceMethod}
use Rattle.template_builtins_pieces.specs.declared.method.PieceMethod.TheVariants.{Split, RSplit, SplitLines, Partition, RPartition, Replace, RemovePrefix, RemoveSuffix, Center, LJust, RJust, ZFill, Join}
use Rattle.template_builtins_pieces.specs.declared.padding.Place.TheVariants as place
use Rattle.template_builtins_pieces.specs.declared.splitting.Side.TheVariants as side

abbrev pub piece_filtered : PieceFilter → View → Val → List Val → Made
piece_filtered filters.Split view v vs = split_filter view v vs

-- Python's methods of a text
abbrev pub piece_made : PieceMethod → View → Val → List Val → Made
piece_made Split view v vs = split_method side.Left v vs
piece_made RSplit view v vs = split_method side.Right v vs
piece_made SplitLines view v vs = split_lines v vs
piece_made Partition view v vs = partition side.Left v vs
piece_made RPartition view v vs = partition side.Right v vs
piece_made Replace view v vs = replace v vs
piece_made RemovePrefix view v vs = remove_prefix v vs
piece_made RemoveSuffix view v vs = remove_suffix v vs
piece_made Center view v vs = pad place.Middle v vs
piece_made LJust view v vs = pad place.Left v vs
piece_made RJust view v vs = pad place.Right v vs
piece_made ZFill view v vs = zero_fill v vs
piece_made Join view v vs = join view v vs
