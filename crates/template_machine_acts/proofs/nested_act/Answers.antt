use Rattle.template_machine_acts.proofs.Nesting as laws
use Rattle.template_machine_acts.proofs.nested_act.Goals as goal

pub returns : goal.returns
returns c = record {
  acts = laws.nested_acts;
  turns = laws.nested_turns;
  faults = laws.nested_faults;
  runs_out = laws.nested_runs_out;
  wants = laws.nested_wants;
  strays = laws.nested_strays;
}
