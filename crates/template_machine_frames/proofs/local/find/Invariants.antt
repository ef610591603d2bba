use Rattle.std.proofs.Common.{◌≡◌, drop}
use Rattle.std.specs.List.{find}
use Rattle.template_machine_frames.specs.Locals.{is_named}
use Rattle.template_machine_frames.proofs.local.find.Given as goal

-- none of the locals that were passed has the name
abbrev pub invariant-loop-local : goal.invariant-loop-local
invariant-loop-local l = find (is_named l.name) l.locals ≡ find (is_named l.name) (drop l.local-index l.locals)
