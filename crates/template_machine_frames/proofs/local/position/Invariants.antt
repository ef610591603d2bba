use Rattle.std.proofs.Common.{◌≡◌, ◌+◌, drop}
use Rattle.std.specs.List.{position_or_len}
use Rattle.template_machine_frames.specs.Locals.{is_named}
use Rattle.template_machine_frames.proofs.local.position.Given as goal

-- none of the locals that were passed has the name
abbrev pub invariant-loop-place : goal.invariant-loop-place
invariant-loop-place l = position_or_len (is_named l.name) l.locals ≡ l.place + position_or_len (is_named l.name) (drop l.place l.locals)
