use Rattle.template_compiler_process.proofs.Fuels as laws
use Rattle.template_compiler_process.proofs.fuel_adds_up.Goals as goal

pub returns : goal.returns
returns g c = laws.adds_up _
