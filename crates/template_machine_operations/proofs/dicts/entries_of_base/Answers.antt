use Rattle.template_machine_operations.proofs.Mapping.{based}
use Rattle.template_machine_operations.proofs.dicts.entries_of_base.Goals as goal

pub returns-in-Map : goal.returns-in-Map
returns-in-Map c = based c.copies.result c.args.base.now c.in-Map.entries.now c.in-Map.ensures c.copies.ensures.made c.copies.ensures.refused
