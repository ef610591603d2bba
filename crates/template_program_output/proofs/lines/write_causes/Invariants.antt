-- The words so far are written, and those of the causes that are left come behind them.
use Rattle.std.proofs.Common.{◌≡◌, ◌++◌, ℕ, List, Ok}
use Rattle.template_program_output.specs.Lines.{causes_behind}
use Rattle.template_program_output.specs.Shown.{Writes}
use Rattle.template_program_output.proofs.lines.write_causes.Given as goal

abbrev pub invariant-loop-cause : goal.invariant-loop-cause
invariant-loop-cause g l = (written : List ℕ) × (causes_behind l.fn.error ≡ written ++ causes_behind l.error)
    × Writes (g.O.Output.shown l.fn.out) (g.O.Output.shown l.out) written (Ok tt)
