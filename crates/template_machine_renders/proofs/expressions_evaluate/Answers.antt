use Rattle.template_machine_renders.proofs.Coming as laws
use Rattle.template_machine_renders.proofs.expressions_evaluate.Goals as goal

pub returns : goal.returns
returns c = laws.expressions_evaluate
