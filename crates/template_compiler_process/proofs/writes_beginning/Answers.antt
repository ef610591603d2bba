use Rattle.template_compiler_process.proofs.Fuels as laws
use Rattle.template_compiler_process.proofs.writes_beginning.Goals as goal

pub returns : goal.returns
returns g c = laws.writes_beginning _
