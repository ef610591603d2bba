use Rattle.std.proofs.Common.{◌≡◌, drop}
use Rattle.template_values_named.specs.Named.{pairs_named}
use Rattle.template_machine_meaning.specs.Calls.{may_hold_any}
use Rattle.template_machine_state.proofs.records.may_hold_any.Given as goal

-- those that are left tell it
abbrev pub invariant-loop-temp : goal.invariant-loop-temp
invariant-loop-temp l = may_hold_any (pairs_named (drop l.temp-index l.temps)) ≡ may_hold_any (pairs_named l.temps)
