use Rattle.template_builtins.proofs.Bringing.{ask_none}
use Rattle.template_builtins.proofs.laws.builtins_ask_no_names.Goals as goal

pub returns : goal.returns
returns c = ask_none
