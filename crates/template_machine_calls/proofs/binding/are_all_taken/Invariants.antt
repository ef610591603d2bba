use Rattle.std.proofs.Common.{◌≡◌, drop}
use Rattle.template_values_core.specs.Maps.{pairs_of}
use Rattle.template_values_core.specs.Shape.{pairs_in}
use Rattle.template_machine_calls.specs.Binding.{takes_each}
use Rattle.template_machine_calls.proofs.binding.are_all_taken.Given as goal

-- the keywords so far are taken
abbrev pub invariant-loop-entry : goal.invariant-loop-entry
invariant-loop-entry l =
    takes_each l.names l.takes_caller (pairs_of (pairs_in (drop l.entry-index l.entries))) ≡ takes_each l.names l.takes_caller (pairs_of (pairs_in l.entries))
