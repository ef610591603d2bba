-- The law of breaks.
use Rattle.std.specs.Prelude.{◌≡◌, ℕ, List, ◌++◌, length}
use Rattle.template_compiler_tree.specs.Tree.{Statements}
use Rattle.template_compiler_code.specs.Code.{Code}
use Rattle.template_compiler_codegen.specs.Statements.{Ways, statements_code}
use Rattle.template_compiler_statement_codegen.specs.Breaks.{breaks_in, led}

-- Between any code: once the jumps of the breaks are told a target, the code is that of statements whose breaks lead
-- there from the first.
abbrev pub BreaksLead : Type 0
BreaksLead = (to : ℕ) (ss : Statements) (ways : Ways) (before behind : List Code)
    → led to (breaks_in ways ss (length before)) (before ++ (statements_code ways ss (length before) ++ behind))
    ≡ before ++ (statements_code (record ways { break_to = to }) ss (length before) ++ behind)
