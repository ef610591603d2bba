-- Processes that always come to a proper end.
use Rattle.std.specs.Prelude.{◌≢◌}
use Rattle.template_compiler_process.specs.Process.{Answer, Process, over, step, asks, amiss, cut_short, stuck}
use Rattle.template_compiler_process.specs.Drive.{End, sticks, IsUncut}

-- whatever is answered, the process comes neither to its bound nor to an operand that lacks
abbrev pub IsWhole : Process → Type 0
IsWhole (over operands) = Unit {0}
IsWhole (step p) = IsWhole p
IsWhole (asks e k) = (a : Answer) → IsWhole (k a)
IsWhole amiss = Unit {0}
IsWhole cut_short = ⊥
IsWhole stuck = ⊥

-- The bound did not run out, and no operand lacked.
pub record IsProper (end : End) : Type 0 where
  pub uncut : IsUncut end
  pub unstuck : end ≢ sticks
