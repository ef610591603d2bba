use Rattle.template_program_answers.proofs.Alone.{alone}
use Rattle.template_program_answers.proofs.json_alone.Goals as goal

pub returns : goal.returns
returns c = alone c.context_laws.ensures.one c.context_laws.ensures.none
