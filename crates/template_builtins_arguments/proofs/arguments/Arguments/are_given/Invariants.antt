use Rattle.std.proofs.Common.{◌≡◌, true}
use Rattle.template_builtins_arguments.specs.Arguments as read
use Rattle.template_builtins_arguments.specs.Given.{given_by}
use Rattle.template_builtins_arguments.proofs.arguments.Arguments.are_given.Given as goal

-- each so far is given
abbrev pub invariant-loop-number : goal.invariant-loop-number
invariant-loop-number l = read.are_given (given_by l.self) l.number ≡ true
