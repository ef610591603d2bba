use Rattle.template_compiler_sources.proofs.Placed.{bare_expression, one_expression, some_expression}
use Rattle.template_compiler_sources.proofs.laws.one_placed_expression.Goals as goal

pub returns-clause-one : goal.returns-clause-one
returns-clause-one c = one_expression

pub returns-clause-bare : goal.returns-clause-bare
returns-clause-bare c = bare_expression

pub returns-clause-some : goal.returns-clause-some
returns-clause-some c = some_expression
