use Rattle.std.proofs.Common.{rules}
use Rattle.template_compiler_tree_statements.specs.declared.statements.Stmt.{the_lemmas}
use Rattle.template_compiler_statement_makers.proofs.Rows.{nodes_row, parts_behind}
use Rattle.template_compiler_statement_makers.proofs.makers.macro_declared.Goals as goal

pub returns : goal.returns
returns c = search (rules, the_lemmas, nodes_row, parts_behind)
