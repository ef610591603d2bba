use Rattle.template_machine_acts.proofs.Framing as laws
use Rattle.template_machine_acts.proofs.macros_act.Goals as goal

pub returns : goal.returns
returns c = record { enclosed = laws.enclose_acts; given = laws.closure_acts; made = laws.macro_acts }
