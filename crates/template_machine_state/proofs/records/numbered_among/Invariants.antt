use Rattle.std.proofs.Common.{◌≡◌, Some, drop, map}
use Rattle.template_machine_meaning.specs.Records.{loop_numbered}
use Rattle.template_machine_state.proofs.records.numbered_among.Given as goal

-- the loops so far have other numbers
abbrev pub invariant-loop-current : goal.invariant-loop-current
invariant-loop-current l = loop_numbered l.number (map Some (drop l.current-index l.closed)) ≡ loop_numbered l.number (map Some l.closed)
