use Rattle.template_machine_acts.proofs.Acting as laws
use Rattle.template_machine_acts.proofs.events_act.Goals as goal

pub returns : goal.returns
returns g c = record { passes = laws.passes_act _; acts = laws.events_act _; faults = laws.events_fault _ }
