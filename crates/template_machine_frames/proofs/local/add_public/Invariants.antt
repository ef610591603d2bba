use Rattle.std.proofs.Common.{◌≡◌, ◌++◌}
use Rattle.template_values_core.specs.Shape.{pairs_in}
use Rattle.template_machine_meaning.specs.Modules.{public_locals}
use Rattle.template_machine_frames.specs.Locals.{locals_of}
use Rattle.template_machine_frames.proofs.Public.{public_from}
use Rattle.template_machine_frames.proofs.local.add_public.Given as goal

-- with those that are left the entries come to what all of them give
abbrev pub invariant-loop-local : goal.invariant-loop-local
invariant-loop-local l =
    pairs_in l.entries.items ++ public_from l.locals l.local-index ≡ pairs_in l.fn.entries.items ++ public_locals (locals_of l.locals)
