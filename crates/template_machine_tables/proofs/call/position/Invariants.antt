use Rattle.std.proofs.Common.{◌≡◌, ◌+◌, drop}
use Rattle.std.specs.List.{position_or_len}
use Rattle.template_machine_tables.specs.Calls.{is_for}
use Rattle.template_machine_tables.proofs.call.position.Given as goal

-- none of the calls that were passed was for the loop
abbrev pub invariant-loop-place : goal.invariant-loop-place
invariant-loop-place l = position_or_len (is_for l.number) l.calls ≡ l.place + position_or_len (is_for l.number) (drop l.place l.calls)
