use Rattle.std.proofs.Common.{subst}
use Rattle.template_compiled.specs.Compiled.{IsFaithful}
use Rattle.template_compiled.proofs.Trees.{tree_runs}
use Rattle.template_machine_environment.proofs.laws.every_template_runs.Goals as goal

pub returns-clause-tree : goal.returns-clause-tree
returns-clause-tree g c = (subst IsFaithful c.get.ensures c.instructions-code.ensures.faithful).has_tree

pub returns-clause-runs : goal.returns-clause-runs
returns-clause-runs g c = tree_runs _
