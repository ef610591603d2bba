-- The law of numbers.
use Rattle.std.specs.Prelude.{◌≡◌, ℕ, List}
use Rattle.template_compiler_code.specs.Code.{Operand, Code}
use Rattle.template_compiler_code.specs.Steps.{exec}
use Rattle.template_compiler_generator.specs.Numbers.{numbered_in}

-- Code does the same with its numbers as without them.
abbrev pub NumbersRunAlike : Type 0
NumbersRunAlike = (code : List Code) (bound place : ℕ) (operands : List Operand) → exec (numbered_in code) bound place operands ≡ exec code bound place operands
