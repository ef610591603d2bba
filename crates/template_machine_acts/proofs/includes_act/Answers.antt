use Rattle.template_machine_acts.proofs.Including as laws
use Rattle.template_machine_acts.proofs.includes_act.Goals as goal

pub returns : goal.returns
returns c = record { acts = laws.include_acts; faults = laws.include_faults; runs_out = laws.include_runs_out; wants = laws.include_wants; strays = laws.include_strays }
