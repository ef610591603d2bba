use Rattle.template_machine_surroundings.proofs.OneRule.{one_rule}
use Rattle.template_machine_surroundings.proofs.escape.one_rule.Goals as goal

pub returns : goal.returns
returns c = one_rule
