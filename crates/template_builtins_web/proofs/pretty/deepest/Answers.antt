use Rattle.std.proofs.Common.{refl}
use Rattle.template_values_forms.specs.Printed.{level_limit}
use Rattle.template_builtins_web.proofs.pretty.deepest.Goals as goal

pub returns-clause-limit : goal.returns-clause-limit
unfolding level_limit
returns-clause-limit c = refl
