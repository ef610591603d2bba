-- The statements of a body are seen alike in its row and in its list.
use Rattle.std.proofs.Common.{◌≡◌, refl, ap}
use Rattle.template_compiler_tree.specs.Tree.{statements_more}
use Rattle.template_compiler_tree_statements.specs.View.{statement_of, statements_of}
use Rattle.template_compiler_tree_statements.specs.declared.statements.Stmt.{Row_of-Stmt, end_of-Stmt, more_of-Stmt, items-the_row-Stmt}
use Rattle.template_compiler_tree_parts.specs.Listed.{statements_in}

pub statements_row : {n : _} (k : Row_of-Stmt n) → statements_of k ≡ statements_in (items-the_row-Stmt n k)
statements_row end_of-Stmt = refl
statements_row (more_of-Stmt s rest) = ap (λ ss. statements_more (statement_of s) ss) (statements_row rest)
