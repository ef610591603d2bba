use Rattle.std.proofs.Common.{◌≡◌}
use Rattle.template_values_operators.specs.Slices.{picked}
use Rattle.template_values_items.proofs.slices.slice_items.Given as goal

abbrev pub invariant-loop-round : goal.invariant-loop-round
invariant-loop-round l = l.slice.items ≡ picked l.items l.places.start l.places.step l.round
