use Rattle.std.proofs.Common.{slice_get}
use Rattle.template_builtins_lists.proofs.Zipping.{without_item}
use Rattle.template_builtins_lists.proofs.zips.with_item.Goals as goal

pub returns-in-None-clause-made : goal.returns-in-None-clause-made
returns-in-None-clause-made c = without_item c.args.row.items (slice_get c.args.items.now c.args.k) c.in-None.ensures
