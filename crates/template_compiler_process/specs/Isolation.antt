-- Which events a process may ask.
use Rattle.template_compiler_process.specs.Process.{Ask, Answer, Process, over, step, asks, amiss, cut_short, stuck}

-- Each event is allowed where it comes. What is known there (names stored in open regions, say) starts
-- as `known` and grows by what is asked and answered.
abbrev pub Allowed : {K : Type 0} → (K → Ask → Type 0) → (K → Ask → Answer → K) → K → Process → Type 0
Allowed allowed learn known (over operands) = Unit {0}
Allowed allowed learn known (step p) = Allowed allowed learn known p
Allowed allowed learn known (asks e k) = allowed known e × ((a : Answer) → Allowed allowed learn (learn known e a) (k a))
Allowed allowed learn known amiss = Unit {0}
Allowed allowed learn known cut_short = Unit {0}
Allowed allowed learn known stuck = Unit {0}
