use Rattle.template_machine_acts.proofs.Laws as laws
use Rattle.template_machine_acts.proofs.operands_act.Goals as goal

pub returns : goal.returns
returns c = record { jump = laws.jump_acts; constant = laws.constant_acts; swap = laws.swap_acts; swap_counted = laws.swap_counted_acts; add_counted = laws.add_counted_acts; undefined = laws.undefined_acts; double = laws.double_acts; discard = laws.discard_acts; lookup = laws.lookup_acts }
