use Rattle.template_machine_meaning.proofs.Bounds as laws
use Rattle.template_machine_meaning.proofs.bounds_extend.Goals as goal

pub returns : goal.returns
returns c = laws.bounds_extend
