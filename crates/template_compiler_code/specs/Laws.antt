-- The law of code under bounds.
use Rattle.std.specs.Prelude.{ℕ, ◌≤◌, List}
use Rattle.template_compiler_process.specs.Process.{Below}
use Rattle.template_compiler_code.specs.Code.{Operand, Code}
use Rattle.template_compiler_code.specs.Steps.{exec}

-- Code that may run for more instructions does what it did, as far as that went.
abbrev pub CodeRises : Type 0
CodeRises = (code : List Code) (k m : ℕ) → k ≤ m → (place : ℕ) (operands : List Operand)
    → Below (exec code k place operands) (exec code m place operands)
