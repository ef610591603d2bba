use Rattle.std.proofs.Common.{ℕ, ◌-◌, ◌<◌, ◌≤◌, length}
use Rattle.template_compiler_syntax.specs.Segments.{HasStart}
use Rattle.template_compiler_syntax.proofs.starts.find_marker.Given as goal

-- no start marker of the kind stands below `at`
abbrev pub invariant-loop-place : goal.invariant-loop-place
invariant-loop-place l = record {
  low : l.from ≤ l.at;
  within : l.at ≤ length l.bytes;
  none : (k : ℕ) → l.from ≤ k → k < l.at → HasStart l.syntax l.bytes k l.kind → ⊥;
}

abbrev pub decreases-loop-place : goal.decreases-loop-place
decreases-loop-place l = length l.bytes - l.at
