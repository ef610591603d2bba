use Rattle.template_machine_going.proofs.Stopping as laws
use Rattle.template_machine_going.proofs.stops_there.Goals as goal

pub returns : goal.returns
returns g c = record {
  faults = laws.faults_there _;
  runs_out = laws.runs_out_there _;
  wants = laws.wants_there _;
  spent = laws.spent_there _;
}
