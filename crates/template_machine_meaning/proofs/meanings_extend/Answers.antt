use Rattle.template_machine_meaning.proofs.Bounds as laws
use Rattle.template_machine_meaning.proofs.meanings_extend.Goals as goal

pub returns : goal.returns
returns c = laws.meanings_extend
