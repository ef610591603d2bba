use Rattle.template_machine_acts.proofs.Capturing as laws
use Rattle.template_machine_acts.proofs.captures_act.Goals as goal

pub returns : goal.returns
returns c = record { begun = laws.begin_acts; ended = laws.end_acts; write = laws.write_captures; print = laws.print_captures }
