use Rattle.template_machine_meaning.proofs.Ends as laws
use Rattle.template_machine_meaning.proofs.one_meaning.Goals as goal

pub returns : goal.returns
returns c = laws.one_meaning
