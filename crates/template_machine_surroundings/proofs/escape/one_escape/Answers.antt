use Rattle.template_machine_surroundings.proofs.OneRule.{one_escape}
use Rattle.template_machine_surroundings.proofs.escape.one_escape.Goals as goal

pub returns : goal.returns
returns c = one_escape
