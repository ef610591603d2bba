-- What contracts see of a `Buffered`.
use Rattle.std.specs.Prelude.{ℕ, List, Option, None, Some}
use Rattle.std.specs.Io.KnownBytes.{append_known}
use Rattle.template_program_output.specs.Answer.{Answer, failures_among}
use Rattle.template_program_output.specs.Shown.{Shown}
use Rattle.template_program_output.specs.declared.buffered.Buffered.{Buffered}

-- the output behind it
abbrev pub output_in : {O : Type 0} → Buffered O → O
output_in b = b.out

-- what it holds back
abbrev pub held_in : {O : Type 0} → Buffered O → List ℕ
held_in b = b.held.items

-- what it has taken: the output's bytes, and behind them what it holds back
abbrev pub taken_by : {O : Type 0} → (O → Shown) → Buffered O → Option (List ℕ)
taken_by shown b = append_known (shown (output_in b)).bytes (held_in b)

-- the failures among the answers that were told, or else as many as were counted
abbrev pub failures_told : Option (List Answer) → ℕ → ℕ
failures_told None counted = counted
failures_told (Some answers) counted = failures_among answers

-- how often it failed
abbrev pub failure_count : {O : Type 0} → (O → Shown) → Buffered O → ℕ
failure_count shown b = failures_told (shown (output_in b)).answers b.failed
