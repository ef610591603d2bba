use Rattle.template_machine_acts.proofs.Calling as calling
use Rattle.template_machine_acts.proofs.calls_act.Goals as goal

pub returns : goal.returns
returns c = record { kwargs = calling.kwargs_acts; merged = calling.merge_acts }
