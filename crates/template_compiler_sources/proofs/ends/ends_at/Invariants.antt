use Rattle.std.proofs.Common.{◌≤◌, ◌+◌, ◌-◌, List}
use Rattle.template_compiler_tokens.specs.Token.{Token}
use Rattle.template_compiler_sources.specs.Ends.{HasTokens, Reaches}
use Rattle.template_compiler_sources.proofs.ends.ends_at.Given as goal

-- the reading reaches the low place, and none above the high one
abbrev pub invariant-loop-low : goal.invariant-loop-low
invariant-loop-low l = record {
  ordered : l.low ≤ l.high;
  within : l.high ≤ l.count;
  reached : (ts : List Token) → HasTokens l.text ts → Reaches l.text ts l.low;
  above : (ts : List Token) → HasTokens l.text ts → l.high + 1 ≤ l.count → Reaches l.text ts (l.high + 1) → ⊥;
}

abbrev pub decreases-loop-low : goal.decreases-loop-low
decreases-loop-low l = l.high - l.low
