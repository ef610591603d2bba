use Rattle.template_compiler_process.proofs.Driving as laws
use Rattle.template_compiler_process.proofs.driven_alike.Goals as goal

pub returns : goal.returns
returns c = laws.driven_alike
