use Rattle.template_machine_meaning.proofs.Handed as laws
use Rattle.template_machine_meaning.proofs.every_expression_gives.Goals as goal

pub returns : goal.returns
returns c = laws.every_expression_gives
