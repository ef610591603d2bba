use Rattle.template_machine_acts.proofs.Framing as laws
use Rattle.template_machine_acts.proofs.namespaces_act.Goals as goal

pub returns : goal.returns
returns c = record { set = laws.set_attribute_acts }
