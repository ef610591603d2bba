use Rattle.template_compiler_process.proofs.Driving as laws
use Rattle.template_compiler_process.proofs.run_alike.Goals as goal

pub returns : goal.returns
returns g c = laws.run_alike _
