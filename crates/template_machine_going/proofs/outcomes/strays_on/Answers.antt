use Rattle.template_machine_going.proofs.Straying as laws
use Rattle.template_machine_going.proofs.outcomes.strays_on.Goals as goal

pub returns : goal.returns
returns g c = record { behind = laws.strays_on _; there = laws.strays_there _ }
