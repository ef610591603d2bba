use Rattle.template_machine_acts.proofs.Framing as laws
use Rattle.template_machine_acts.proofs.escapes_act.Goals as goal

pub returns : goal.returns
returns c = record { opened = laws.open_escape_acts; closed = laws.close_escape_acts }
