use Rattle.template_machine_acts.proofs.Laws as laws
use Rattle.template_machine_acts.proofs.Unpacking as unpacking
use Rattle.template_machine_acts.proofs.containers_act.Goals as goal

pub returns : goal.returns
returns c = record { list = laws.list_acts; tuple = laws.tuple_acts; map = laws.map_acts; unpack = unpacking.unpack_acts; counted = laws.counted_acts }
