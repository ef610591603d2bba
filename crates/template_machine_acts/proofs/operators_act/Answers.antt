use Rattle.template_machine_acts.proofs.Laws as laws
use Rattle.template_machine_acts.proofs.operators_act.Goals as goal

pub returns : goal.returns
returns c = record { negate = laws.negate_acts; invert = laws.invert_acts; operate = laws.operate_acts; compare = laws.compare_acts; attribute = laws.attribute_acts; item = laws.item_acts; slice = laws.slice_acts }
