use Rattle.std.proofs.Common.{refl}
use Rattle.template_values_forms.specs.Printed.{level_limit}
use Rattle.template_values_forms.proofs.freezing.deepest.Goals as goal

pub returns : goal.returns
unfolding level_limit
returns c = refl
