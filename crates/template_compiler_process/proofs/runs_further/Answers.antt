use Rattle.template_compiler_process.proofs.Approximants as laws
use Rattle.template_compiler_process.proofs.runs_further.Goals as goal

pub returns : goal.returns
returns g c = laws.runs_further _
