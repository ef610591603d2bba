use Rattle.template_compiled.proofs.Alone.{expression_in_runs}
use Rattle.template_compiled.proofs.expression.standalone_trees_run.Goals as goal

pub returns : goal.returns
returns c = expression_in_runs
