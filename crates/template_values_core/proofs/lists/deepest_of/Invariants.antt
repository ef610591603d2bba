use Rattle.std.proofs.Common.{◌≡◌, ◌≤◌, max, drop}
use Rattle.template_values_model.specs.declared.TheConstants.{DEPTH_LIMIT}
use Rattle.template_values_model.specs.Val.{vals_of}
use Rattle.template_values_core.specs.Depth.{vals_depth}
use Rattle.template_values_core.proofs.lists.deepest_of.Given as goal

abbrev pub invariant-loop-item : goal.invariant-loop-item
invariant-loop-item l = record {
  bound : l.deepest ≤ DEPTH_LIMIT;
  deepest : max l.deepest (vals_depth (vals_of (drop l.item-index l.items))) ≡ vals_depth (vals_of l.items);
}
