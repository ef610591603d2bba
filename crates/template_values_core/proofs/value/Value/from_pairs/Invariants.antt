use Rattle.std.proofs.Common.{◌≡◌}
use Rattle.template_values_core.specs.Maps.{named_pairs}
use Rattle.template_values_core.specs.Shape.{pairs_in}
use Rattle.template_values_core.proofs.value.Value.from_pairs.Given as goal

-- the entries so far are those of the pairs so far
abbrev pub invariant-loop-name : goal.invariant-loop-name
invariant-loop-name l = pairs_in l.entries.items ≡ named_pairs l.yielded
