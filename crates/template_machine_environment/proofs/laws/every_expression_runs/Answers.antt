use Rattle.template_compiled.proofs.Alone.{expression_in_runs}
use Rattle.template_machine_environment.proofs.laws.every_expression_runs.Goals as goal

pub returns-clause-expression : goal.returns-clause-expression
returns-clause-expression g c = c.instructions-code.ensures.faithful.has_expression

pub returns-clause-runs : goal.returns-clause-runs
returns-clause-runs g c = expression_in_runs _
