use Rattle.std.proofs.Common.{ℕ, ◌+◌, ◌-◌, ◌≤◌, length, drop}
use Rattle.template_compiler_tokens.specs.Texts.{IsClose}
use Rattle.template_compiler_scanner.proofs.texts.find_close.Given as goal

-- the quote that closes what stands from `from` on closes the text, and there is no other
abbrev pub invariant-loop-skipped : goal.invariant-loop-skipped
invariant-loop-skipped l = record {
  within : l.from ≤ length l.text;
  goes_on : (n : ℕ) → IsClose l.quote (drop l.from l.text) n → IsClose l.quote l.text (l.from + n);
  fails : ((n : ℕ) → IsClose l.quote (drop l.from l.text) n → ⊥) → (n : ℕ) → IsClose l.quote l.text n → ⊥;
}

abbrev pub decreases-loop-skipped : goal.decreases-loop-skipped
decreases-loop-skipped l = length l.text - l.from
