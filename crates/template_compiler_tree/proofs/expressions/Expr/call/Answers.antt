use Rattle.std.proofs.Common.{rules}
use Rattle.template_compiler_tree.specs.declared.expressions.Expr.{the_lemmas}
use Rattle.template_compiler_tree.proofs.Rows.{arguments_row, argument_places_row}
use Rattle.template_compiler_tree.proofs.expressions.Expr.call.Goals as goal

pub returns-clause-tree : goal.returns-clause-tree
returns-clause-tree c = search (rules, the_lemmas, arguments_row)

pub returns-clause-places : goal.returns-clause-places
returns-clause-places c = search (rules, the_lemmas, argument_places_row)
