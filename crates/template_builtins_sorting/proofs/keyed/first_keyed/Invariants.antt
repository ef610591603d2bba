use Rattle.std.proofs.Common.{◌≡◌}
use Rattle.template_builtins_sorting.specs.Sorted.{first_of, stands_before}
use Rattle.template_builtins_sorting.proofs.Ends.{first_with}
use Rattle.template_builtins_sorting.proofs.keyed.first_keyed.Given as goal

-- the first of what is left and of what the items behind it came to
abbrev pub invariant-loop-next : goal.invariant-loop-next
invariant-loop-next l =
    first_with (stands_before l.is_reversed) l.keyed.items l.first ≡ first_of (stands_before l.is_reversed) l.fn.keyed.items

abbrev pub decreases-loop-next : goal.decreases-loop-next
decreases-loop-next l = goal.left-loop-next l
