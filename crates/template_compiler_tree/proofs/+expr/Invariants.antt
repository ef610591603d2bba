-- What is left to drop is no larger than what was passed.
use Rattle.std.proofs.Common.{◌≤◌}
use Rattle.template_compiler_tree.specs.declared.expressions.Expr.{size-Expr}
use Rattle.template_compiler_tree.proofs.+expr.Given as goal

abbrev pub invariant-expressions::Expr::drop_parts-loop-self : goal.invariant-expressions::Expr::drop_parts-loop-self
invariant-expressions::Expr::drop_parts-loop-self l = size-Expr l.self ≤ size-Expr l.fn.self
