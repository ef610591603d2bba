use Rattle.template_callables.specs.Callables.{escapes}
use Rattle.template_callables.specs.Joins.{keeps_name}
use Rattle.template_machine_environment.specs.Reading.{extras_of}
use Rattle.template_builtins.proofs.Bringing.{answers_alike}
use Rattle.template_builtins.proofs.laws.builtins_answer.Goals as goal

pub returns : goal.returns
returns c = answers_alike (λ formatter view v. escapes v) (λ join. keeps_name) (extras_of c.args._environment.now)
