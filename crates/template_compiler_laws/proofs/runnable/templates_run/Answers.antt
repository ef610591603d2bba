use Rattle.template_compiler_laws.proofs.RunnableStatements.{template_runs}
use Rattle.template_compiler_laws.proofs.runnable.templates_run.Goals as goal

pub returns : goal.returns
returns c = λ tokens tree reads. template_runs reads
