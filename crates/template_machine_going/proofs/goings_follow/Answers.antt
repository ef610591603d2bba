use Rattle.template_machine_going.proofs.Going as laws
use Rattle.template_machine_going.proofs.goings_follow.Goals as goal

pub returns : goal.returns
returns g c = record { nowhere = laws.goes_nowhere _; on = laws.goes_on _ }
