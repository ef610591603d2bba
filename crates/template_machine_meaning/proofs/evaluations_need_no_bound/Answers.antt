use Rattle.template_machine_meaning.proofs.Evaluating as laws
use Rattle.template_machine_meaning.proofs.evaluations_need_no_bound.Goals as goal

pub returns : goal.returns
returns c = laws.evaluations_need_no_bound
