-- The entries so far, and the pairs that are left.
use Rattle.std.proofs.Common.{◌≡◌, ◌++◌, drop}
use Rattle.template_values_core.specs.Shape.{pairs_in}
use Rattle.template_compiler_walk.specs.Containers.{pairs_with}
use Rattle.template_compiler_folding.proofs.containers.entries_with.Given as goal

abbrev pub invariant-loop-i : goal.invariant-loop-i
invariant-loop-i l = record {
  entries : pairs_in l.entries.items ++ pairs_with (drop l.i l.keys) (drop l.i l.values) ≡ pairs_with l.keys l.values;
}
