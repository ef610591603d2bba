use Rattle.template_machine_meaning.proofs.Ends as laws
use Rattle.template_machine_meaning.proofs.every_key_ends.Goals as goal

pub returns : goal.returns
returns c = laws.every_key_ends
