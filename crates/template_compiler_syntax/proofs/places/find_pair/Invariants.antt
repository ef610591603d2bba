use Rattle.std.proofs.Common.{ℕ, ◌-◌, ◌<◌, ◌≤◌, length}
use Rattle.template_compiler_syntax.specs.Places.{StandsAt}
use Rattle.template_compiler_syntax.proofs.places.find_pair.Given as goal

-- the text stands nowhere below `at`
abbrev pub invariant-loop-skipped : goal.invariant-loop-skipped
invariant-loop-skipped l = record {
  low : l.from ≤ l.at;
  within : l.at ≤ length l.bytes;
  none : (k : ℕ) → l.from ≤ k → k < l.at → StandsAt l.bytes k l.text → ⊥;
}

abbrev pub decreases-loop-skipped : goal.decreases-loop-skipped
decreases-loop-skipped l = length l.bytes - l.at
