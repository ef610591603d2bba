use Rattle.template_machine_meaning.proofs.Bounds as laws
use Rattle.template_machine_meaning.proofs.keys_extend.Goals as goal

pub returns : goal.returns
returns c = laws.keys_extend
