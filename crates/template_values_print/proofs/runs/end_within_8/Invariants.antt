use Rattle.std.proofs.Common.{◌≡◌, ◌+◌, ◌-◌, ◌≤◌, length, drop}
use Rattle.std.specs.List.{prefix_len}
use Rattle.template_values_print.specs.Runs.{stands}
use Rattle.template_values_print.proofs.runs.end_within_8.Given as goal

abbrev pub invariant-loop-i : goal.invariant-loop-i
invariant-loop-i l =
    (l.from + prefix_len (stands l.stops) (drop l.from l.text) ≡ l.i + prefix_len (stands l.stops) (drop l.i l.text)) × (l.i ≤ length l.text)

abbrev pub decreases-loop-i : goal.decreases-loop-i
decreases-loop-i l = length l.text - l.i
