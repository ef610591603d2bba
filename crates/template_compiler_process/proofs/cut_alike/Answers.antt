use Rattle.template_compiler_process.proofs.Fuels as laws
use Rattle.template_compiler_process.proofs.cut_alike.Goals as goal

pub returns : goal.returns
returns g c = laws.cut_alike _ _
