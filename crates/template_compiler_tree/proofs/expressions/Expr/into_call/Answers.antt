use Rattle.std.proofs.Common.{rules}
use Rattle.template_compiler_tree.specs.declared.expressions.Expr.{the_lemmas}
use Rattle.template_compiler_tree.proofs.Rows.{argument_places_row, arguments_row}
use Rattle.template_compiler_tree.proofs.Arms.{chain_call}
use Rattle.template_compiler_tree.proofs.expressions.Expr.into_call.Goals as goal

pub returns-in-Call-clause-call : goal.returns-in-Call-clause-call
returns-in-Call-clause-call c = search (rules, the_lemmas, arguments_row)

pub returns-in-Call-clause-places : goal.returns-in-Call-clause-places
returns-in-Call-clause-places c = search (rules, the_lemmas, argument_places_row)

pub returns-5-clause-call : goal.returns-5-clause-call
returns-5-clause-call c = search (rules, the_lemmas, chain_call)
