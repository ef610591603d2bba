use Rattle.template_program_run.proofs.Bringing.{asks_none}
use Rattle.template_program_run.specs.Served.{served_under}
use Rattle.template_program_answers.proofs.Answers.{one_answer}
use Rattle.template_program_answers.proofs.Refusals.{usable_under}
use Rattle.template_program_answers.proofs.one_answer.Goals as goal

pub returns : goal.returns
returns c = λ options syntax.
    one_answer c.isolation.ensures (served_under options) (asks_none c.builtins_ask_no_names.ensures options.builtins) (usable_under options syntax)
