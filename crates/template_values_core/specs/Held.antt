-- What shared items and entries hold.
use Rattle.std.specs.Prelude.{◌≡◌, ◌+◌, ◌≤◌, List}
use Rattle.template_values_model.specs.declared.TheConstants.{DEPTH_LIMIT}
use Rattle.template_values_model.specs.Val.{Val, vals_of}
use Rattle.template_values_core.specs.Depth.{vals_depth, pairs_depth}
use Rattle.template_values_core.specs.Kept.{IsRising}
use Rattle.template_values_core.specs.Maps.{pairs_of}
use Rattle.template_values_core.specs.Shape.{pairs_in}
use Rattle.template_values_core.specs.declared.lists.SharedItems.{SharedItems}
use Rattle.template_values_core.specs.declared.maps.SharedEntries.{SharedEntries}

pub record HoldsItems (s : SharedItems) (vs : List Val) : Type 0 where
  pub items : s.items.value.items ≡ vs
  pub levels : s.levels ≡ vals_depth (vals_of vs) + 1
  pub bound : s.levels ≤ DEPTH_LIMIT

pub record HoldsPairs (s : SharedEntries) (ps : List (Val × Val)) : Type 0 where
  pub pairs : pairs_in s.entries.value.items ≡ ps
  pub rising : IsRising s.entries.value.items
  pub levels : s.levels ≡ pairs_depth (pairs_of ps) + 1
  pub bound : s.levels ≤ DEPTH_LIMIT
