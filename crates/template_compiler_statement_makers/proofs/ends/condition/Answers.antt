use Rattle.std.proofs.Common.{rules}
use Rattle.template_compiler_tree_statements.specs.declared.statements.Stmt.{the_lemmas}
use Rattle.template_compiler_statement_makers.proofs.Rows.{nodes_row}
use Rattle.template_compiler_statement_makers.proofs.ends.condition.Goals as goal

pub returns : goal.returns
returns c = search (rules, the_lemmas, nodes_row)
