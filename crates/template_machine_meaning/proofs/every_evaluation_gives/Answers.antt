use Rattle.template_machine_meaning.proofs.Evaluating as laws
use Rattle.template_machine_meaning.proofs.every_evaluation_gives.Goals as goal

pub returns : goal.returns
returns c = laws.every_evaluation_gives
