-- Runs under bounds: what is finished under one bound is the same under every greater one, and what is not
-- has begun there.
use Rattle.std.specs.Prelude.{◌≡◌, ◌⊎◌}
use Rattle.template_compiler_process.specs.Process.{Ask, Process, breaks_off, Below}
use Rattle.template_compiler_process.specs.Drive.{End, ends, faults, breaks, cuts}
use Rattle.template_compiler_process.specs.Trace.{Reply, Run, run}
use Rattle.template_compiler_process.specs.Fuel.{Begins}

-- the run came to its end by itself, or with a fault
abbrev pub IsFinished : End → Type 0
IsFinished (ends operands) = Unit {0}
IsFinished (faults kinds) = Unit {0}
IsFinished _ = ⊥

-- a bound ran out, there or in what an event started
abbrev pub IsUnfinished : End → Type 0
IsUnfinished breaks = Unit {0}
IsUnfinished cuts = Unit {0}
IsUnfinished _ = ⊥

-- the second run is the first one, or the first is a beginning of it that a bound cut short
abbrev pub Extends : {S : Type 0} → Run S → Run S → Type 0
Extends r q = (q ≡ r) ⊎ (IsUnfinished r.end × Begins r.items q.items)

-- the same of what is told after an event
abbrev pub RepliesMore : {S : Type 0} → Reply S → Reply S → Type 0
RepliesMore r q = (q ≡ r) ⊎ ((r.told ≡ breaks_off) × Begins r.items q.items)

-- Surroundings that reply more, to a process that goes further, give a run that extends.
abbrev pub RunsFurther : Type 0 → Type 0
RunsFurther S = (answer other : S → Ask → Reply S) → ((s : S) (e : Ask) → RepliesMore (answer s e) (other s e))
    → (p q : Process) (s : S) → Below p q → Extends (run answer p s) (run other q s)
