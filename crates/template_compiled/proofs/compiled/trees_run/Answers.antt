use Rattle.template_compiled.proofs.Trees.{tree_runs}
use Rattle.template_compiled.proofs.compiled.trees_run.Goals as goal

pub returns : goal.returns
returns c = tree_runs
