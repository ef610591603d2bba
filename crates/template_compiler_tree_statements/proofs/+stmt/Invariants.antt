-- What is left to drop is smaller than what was passed.
use Rattle.std.proofs.Common.{ℕ, ◌+◌, ◌≤◌, Box, Global}
use Rattle.std.specs.Prelude.{IfSome, Option, None, Some}
use Rattle.template_compiler_tree.specs.declared.span.Spanned.{Spanned}
use Rattle.template_compiler_tree_statements.specs.declared.statements.IfCond.{IfCond}
use Rattle.template_compiler_tree_statements.specs.declared.statements.Stmt.{IfCond as condition, size-Stmt}
use Rattle.template_compiler_tree_statements.proofs.+stmt.Given as goal

-- the size of the condition that is left, and one where one is left
abbrev pub left_size : Option (Box (Spanned IfCond) Global) → ℕ
left_size None = 0
left_size (Some n) = size-Stmt (condition n) + 1

abbrev pub invariant-statements::Stmt::drop_bodies-loop-next : goal.invariant-statements::Stmt::drop_bodies-loop-next
invariant-statements::Stmt::drop_bodies-loop-next l = IfSome l.next (λ n. size-Stmt (condition n) ≤ size-Stmt l.fn.self)

abbrev pub decreases-statements::Stmt::drop_bodies-loop-next : goal.decreases-statements::Stmt::drop_bodies-loop-next
decreases-statements::Stmt::drop_bodies-loop-next l = left_size l.next
