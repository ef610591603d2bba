use Rattle.std.proofs.Common.{◌≡◌, ◌≤◌, max, drop}
use Rattle.template_values_model.specs.declared.TheConstants.{DEPTH_LIMIT}
use Rattle.template_values_core.specs.Depth.{pairs_depth}
use Rattle.template_values_core.specs.Maps.{pairs_of}
use Rattle.template_values_core.specs.Shape.{pairs_in}
use Rattle.template_values_core.proofs.maps.deepest_of.Given as goal

abbrev pub invariant-loop-entry : goal.invariant-loop-entry
invariant-loop-entry l = record {
  bound : l.deepest ≤ DEPTH_LIMIT;
  deepest : max l.deepest (pairs_depth (pairs_of (pairs_in (drop l.entry-index l.entries)))) ≡ pairs_depth (pairs_of (pairs_in l.entries));
}
