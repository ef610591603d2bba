use Rattle.std.proofs.Common.{◌≡◌, List, ◌++◌}
use Rattle.template_values_errors.specs.declared.ErrorKind.{ErrorKind}
use Rattle.template_program_parts.proofs.status.innermost.Given as goal

-- the kinds so far, and those of the cause that is reached
abbrev pub invariant-loop-cause : goal.invariant-loop-cause
invariant-loop-cause l = (outer : List ErrorKind) × (l.fn.error ≡ outer ++ l.innermost)
