use Rattle.std.proofs.Common.{◌∙◌}
use Rattle.template_builtins_fields.proofs.Numbers.{number_is}
use Rattle.template_builtins_fields.proofs.arguments.number_in.Goals as goal

pub returns : goal.returns
returns c = c.ok.ensures.value ∙ number_is _ _ c.from_str_radix.ensures.value c.requires.0 c.requires.1
