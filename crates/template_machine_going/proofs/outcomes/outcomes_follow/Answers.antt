use Rattle.template_machine_going.proofs.ComingOut as laws
use Rattle.template_machine_going.proofs.outcomes.outcomes_follow.Goals as goal

pub returns : goal.returns
returns g c = laws.comes_behind _ _
