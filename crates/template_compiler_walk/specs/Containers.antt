-- Containers that are built of values. One that would nest more than 500 levels deep is refused.
use Rattle.std.specs.Prelude.{nat_le, List, [], ◌∷◌, Result, Ok, Err, if◌then◌else◌}
use Rattle.template_values_model.specs.Fault.{Fault, invalid_operation}
use Rattle.template_values_model.specs.Val.{Val, vals_of, tuple, map, keyword_map}
use Rattle.template_values_model.specs.declared.TheConstants.{DEPTH_LIMIT}
use Rattle.template_values_core.specs.Depth.{depth}
use Rattle.template_values_core.specs.Maps.{collected}

abbrev pub within_depth : Val → Result Val Fault
within_depth v = if nat_le (depth v) DEPTH_LIMIT then Ok v else Err invalid_operation

abbrev pub tuple_made : List Val → Result Val Fault
tuple_made vs = within_depth (tuple (vals_of vs))

-- of equal keys the first stays, with the last value
abbrev pub map_made : List (Val × Val) → Result Val Fault
map_made entries = within_depth (map (collected entries))

-- so it is of keyword arguments, whose keys are their names
abbrev pub kwargs_made : List (Val × Val) → Result Val Fault
kwargs_made entries = within_depth (keyword_map (collected entries))

-- keys with the values at their places
abbrev pub pairs_with : List Val → List Val → List (Val × Val)
pairs_with (k ∷ ks) (v ∷ vs) = (k, v) ∷ pairs_with ks vs
pairs_with _ _ = []
