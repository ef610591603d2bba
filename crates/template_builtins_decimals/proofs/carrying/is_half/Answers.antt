use Rattle.template_builtins_decimals.proofs.Halves.{half_begins_at}
use Rattle.template_builtins_decimals.proofs.carrying.is_half.Goals as goal

pub returns-in-len1-up : goal.returns-in-len1-up
returns-in-len1-up c = half_begins_at c.args.rest.now c.requires c.in-len1-up.len_at_least
