-- Jumps whose target is told later.
use Rattle.std.specs.Prelude.{ℕ, Option, None, Some}
use Rattle.template_compiler_tree.specs.declared.operators.BinOpKind.{BinOpKind}
use Rattle.template_compiler_tree.specs.declared.operators.BinOpKind.TheVariants.{ScAnd, ScOr}
use Rattle.template_compiler_code.specs.Code.{Code, jump, jump_if_false, jump_if_false_or_pop, jump_if_true_or_pop, iterate}
use Rattle.template_compiler_emission.specs.declared.leaps.Leap.{Leap}
use Rattle.template_compiler_emission.specs.declared.leaps.Leap.TheVariants.{Always, IfFalse, IfFalseOrPop, IfTrueOrPop, Iterate}

abbrev pub leap_code : Leap → ℕ → Code
leap_code Always = jump
leap_code IfFalse = jump_if_false
leap_code IfFalseOrPop = jump_if_false_or_pop
leap_code IfTrueOrPop = jump_if_true_or_pop
leap_code Iterate = iterate

-- the jump over the right side of `and` and of `or`
abbrev pub leap_of : BinOpKind → Option Leap
leap_of ScAnd = Some IfFalseOrPop
leap_of ScOr = Some IfTrueOrPop
leap_of _ = None
