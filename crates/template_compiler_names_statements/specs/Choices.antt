-- The trees of nodes that are gone over by themselves.
use Rattle.std.specs.Global.{Box}
use Rattle.template_compiler_tree.specs.Tree.{Statement}
use Rattle.template_compiler_tree_statements.specs.View.{statement_of}
use Rattle.template_compiler_tree.specs.declared.span.Spanned.{Spanned}
use Rattle.template_compiler_tree_statements.specs.declared.statements.ForLoop.{ForLoop as ForLoopNode}
use Rattle.template_compiler_tree_statements.specs.declared.statements.IfCond.{IfCond as IfCondNode}
use Rattle.template_compiler_tree_statements.specs.declared.statements.WithBlock.{WithBlock as WithBlockNode}
use Rattle.template_compiler_tree_statements.specs.declared.statements.Stmt.{ForLoop, IfCond, WithBlock}

abbrev pub loop_of : Box (Spanned ForLoopNode) → Statement
loop_of n = statement_of (ForLoop n)

abbrev pub with_of : Box (Spanned WithBlockNode) → Statement
with_of n = statement_of (WithBlock n)

abbrev pub choice_of : Box (Spanned IfCondNode) → Statement
choice_of n = statement_of (IfCond n)
