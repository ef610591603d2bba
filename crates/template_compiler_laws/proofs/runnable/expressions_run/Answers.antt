use Rattle.template_compiler_laws.proofs.RunnableExpressions.{expression_runs}
use Rattle.template_compiler_laws.proofs.runnable.expressions_run.Goals as goal

pub returns : goal.returns
returns c = λ levels tokens rest e reads. expression_runs reads
