use Rattle.template_machine_going.proofs.ComingOut as laws
use Rattle.template_machine_going.proofs.outcomes.steps_come_out.Goals as goal

pub returns : goal.returns
returns g c = record { paid = laws.step_comes_out _ _; spent = laws.spent_comes_out _ _ }
