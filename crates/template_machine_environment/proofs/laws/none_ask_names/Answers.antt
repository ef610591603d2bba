use Rattle.template_machine_environment.specs.Reading.{extras_of}
use Rattle.template_machine_environment.proofs.Asking.{none_ask}
use Rattle.template_machine_environment.proofs.laws.none_ask_names.Goals as goal

pub returns : goal.returns
returns c = none_ask (extras_of c.args._environment.now)
