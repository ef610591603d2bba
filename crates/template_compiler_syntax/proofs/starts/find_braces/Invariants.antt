use Rattle.std.proofs.Common.{ℕ, ◌-◌, ◌<◌, ◌≤◌, length}
use Rattle.template_compiler_syntax.specs.Known.{IsBraces}
use Rattle.template_compiler_syntax.proofs.starts.find_braces.Given as goal

-- no start marker stands below `at`
abbrev pub invariant-loop-skipped : goal.invariant-loop-skipped
invariant-loop-skipped l = record {
  low : l.from ≤ l.at;
  within : l.at ≤ length l.bytes;
  none : (k : ℕ) → l.from ≤ k → k < l.at → IsBraces l.bytes k → ⊥;
}

abbrev pub decreases-loop-skipped : goal.decreases-loop-skipped
decreases-loop-skipped l = length l.bytes - l.at
