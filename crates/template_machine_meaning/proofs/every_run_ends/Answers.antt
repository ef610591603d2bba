use Rattle.template_machine_meaning.proofs.Ends as laws
use Rattle.template_machine_meaning.proofs.every_run_ends.Goals as goal

pub returns : goal.returns
returns c = laws.every_run_ends
