-- What `Below` promises: who does what another does, as far as that one goes, does the same under every
-- driver and under all surroundings, wherever the other's bound does not run out.
use Rattle.std.specs.Prelude.{◌≡◌, List}
use Rattle.template_compiler_process.specs.Process.{Ask, Told, Process, Below}
use Rattle.template_compiler_process.specs.Drive.{drive, IsUncut}
use Rattle.template_compiler_process.specs.Trace.{Reply, run}
use Rattle.template_compiler_process.specs.Whole.{IsWhole, IsProper}

-- Each process does what it does itself.
abbrev pub BelowItself : Type 0
BelowItself = (p : Process) → Below p p

-- Who does what a second does, as far as that goes, does what a third does, as far as that goes, where
-- the second so follows the third.
abbrev pub BelowFollows : Type 0
BelowFollows = (p q r : Process) → Below p q → Below q r → Below p r

-- Driven by what is told, the two take the same marks and come to the same end.
abbrev pub DrivenAlike : Type 0
DrivenAlike = (p q : Process) (told : List Told) → Below p q → IsUncut (drive p told).end → drive q told ≡ drive p told

-- Run under the same surroundings, the two leave the same trace and come to the same end.
abbrev pub RunAlike : Type 0 → Type 0
RunAlike S = (answer : S → Ask → Reply S) (p q : Process) (s : S) → Below p q
    → IsUncut (run answer p s).end → run answer q s ≡ run answer p s

-- A whole process comes to a proper end, whatever is told.
abbrev pub DrivenWhole : Type 0
DrivenWhole = (p : Process) (told : List Told) → IsWhole p → IsProper (drive p told).end

-- A whole process comes to a proper end under all surroundings.
abbrev pub RunWhole : Type 0 → Type 0
RunWhole S = (answer : S → Ask → Reply S) (p : Process) (s : S) → IsWhole p → IsProper (run answer p s).end
