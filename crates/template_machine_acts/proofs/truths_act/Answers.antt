use Rattle.template_machine_acts.proofs.Laws as laws
use Rattle.template_machine_acts.proofs.truths_act.Goals as goal

pub returns : goal.returns
returns c = record { jump_if_false = laws.jump_if_false_acts; jump_if_false_or_pop = laws.jump_if_false_or_pop_acts; jump_if_true_or_pop = laws.jump_if_true_or_pop_acts }
