use Rattle.template_compiler_grammar.proofs.First.{expression_first, statement_first}
use Rattle.template_compiler_grammar.proofs.trees.own_span_first.Goals as goal

pub returns-clause-expressions : goal.returns-clause-expressions
returns-clause-expressions c = expression_first

pub returns-clause-statements : goal.returns-clause-statements
returns-clause-statements c = statement_first
