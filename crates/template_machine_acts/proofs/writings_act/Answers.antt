use Rattle.template_machine_acts.proofs.Laws as laws
use Rattle.template_machine_acts.proofs.writings_act.Goals as goal

pub returns : goal.returns
returns c = record { write = laws.write_acts; print = laws.print_acts; refuse = laws.print_faults }
