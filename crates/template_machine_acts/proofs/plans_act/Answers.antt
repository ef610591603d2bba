use Rattle.template_machine_acts.proofs.Planning as laws
use Rattle.template_machine_acts.proofs.plans_act.Goals as goal

pub returns : goal.returns
returns c = record { acts = laws.planned_acts; faults = laws.planned_faults; ends = laws.done_acts; gives = laws.value_acts }
