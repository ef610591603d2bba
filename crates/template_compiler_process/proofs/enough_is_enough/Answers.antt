use Rattle.template_compiler_process.proofs.Fuels as laws
use Rattle.template_compiler_process.proofs.enough_is_enough.Goals as goal

pub returns : goal.returns
returns g c = laws.enough _
