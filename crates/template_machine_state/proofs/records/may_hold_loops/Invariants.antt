use Rattle.std.proofs.Common.{◌≡◌, drop}
use Rattle.template_values_core.specs.Shape.{pairs_in}
use Rattle.template_machine_meaning.specs.Namespaces.{may_hold_loops}
use Rattle.template_machine_state.proofs.records.may_hold_loops.Given as goal

-- no entry so far has such a value
abbrev pub invariant-loop-entry : goal.invariant-loop-entry
invariant-loop-entry l = may_hold_loops (pairs_in (drop l.entry-index l.entries)) ≡ may_hold_loops (pairs_in l.entries)
