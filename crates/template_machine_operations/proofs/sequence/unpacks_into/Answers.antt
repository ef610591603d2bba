use Rattle.template_machine_operations.proofs.Unpacked.{fits_list, fits_map, fits_tuple}
use Rattle.template_machine_operations.proofs.sequence.unpacks_into.Goals as goal

pub returns-in-List : goal.returns-in-List
returns-in-List c = fits_list c.args.count c.in-List.items.now c.args.value.now c.in-List.ensures

pub returns-in-Tuple : goal.returns-in-Tuple
returns-in-Tuple c = fits_tuple c.args.count c.in-Tuple.items.now c.args.value.now c.in-Tuple.ensures

pub returns-in-Map : goal.returns-in-Map
returns-in-Map c = fits_map c.args.count c.in-Map.entries.now c.args.value.now c.in-Map.ensures
