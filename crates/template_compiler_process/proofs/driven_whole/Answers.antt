use Rattle.template_compiler_process.proofs.Ending as laws
use Rattle.template_compiler_process.proofs.driven_whole.Goals as goal

pub returns : goal.returns
returns c = laws.driven_whole
