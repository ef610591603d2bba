use Rattle.template_compiler_names.proofs.Enclosing as laws
use Rattle.template_compiler_names.proofs.encloses_used.Goals as goal

pub returns : goal.returns
returns c = laws.encloses_used
