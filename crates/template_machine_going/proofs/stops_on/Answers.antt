use Rattle.template_machine_going.proofs.Stopping as laws
use Rattle.template_machine_going.proofs.stops_on.Goals as goal

pub returns : goal.returns
returns g c = record { faults = laws.faults_on _; runs_out = laws.runs_out_on _; wants = laws.wants_on _ }
