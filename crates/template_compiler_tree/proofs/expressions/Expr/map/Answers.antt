use Rattle.std.proofs.Common.{rules}
use Rattle.template_compiler_tree.specs.declared.expressions.Expr.{the_lemmas}
use Rattle.template_compiler_tree.proofs.Rows.{expressions_row, places_row}
use Rattle.template_compiler_tree.proofs.expressions.Expr.map.Goals as goal

pub returns-clause-tree : goal.returns-clause-tree
returns-clause-tree c = search (rules, the_lemmas, expressions_row)

pub returns-clause-places : goal.returns-clause-places
returns-clause-places c = search (rules, the_lemmas, places_row)
