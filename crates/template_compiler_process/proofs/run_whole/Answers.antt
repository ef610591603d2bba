use Rattle.template_compiler_process.proofs.Ending as laws
use Rattle.template_compiler_process.proofs.run_whole.Goals as goal

pub returns : goal.returns
returns g c = laws.run_whole _
