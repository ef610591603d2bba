use Rattle.std.proofs.Common.{ℕ, ◌-◌, ◌<◌, ◌≤◌, length}
use Rattle.template_compiler_syntax.specs.Segments.{IsRawEnd}
use Rattle.template_compiler_placed_tokens.proofs.words.find_raw_end.Given as goal

-- no block below `at` ends raw data
abbrev pub invariant-loop-place : goal.invariant-loop-place
invariant-loop-place l = record {
  low : l.from ≤ l.at;
  within : l.at ≤ length l.source;
  none : (k : ℕ) → l.from ≤ k → k < l.at → IsRawEnd l.syntax l.source k → ⊥;
}

abbrev pub decreases-loop-place : goal.decreases-loop-place
decreases-loop-place l = length l.source - l.at
