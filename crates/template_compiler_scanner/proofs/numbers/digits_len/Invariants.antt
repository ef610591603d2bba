use Rattle.std.proofs.Common.{◌≡◌, ℕ, ◌+◌, ◌<◌, true, get_or}
use Rattle.template_compiler_tokens.specs.Numbers.{goes_on}
use Rattle.template_compiler_scanner.proofs.numbers.digits_len.Given as goal

abbrev pub invariant-loop-index : goal.invariant-loop-index
invariant-loop-index l = (k : ℕ) → k < l.index → goes_on l.base (get_or l.text k 0) (get_or l.text (k + 1) 0) ≡ true
