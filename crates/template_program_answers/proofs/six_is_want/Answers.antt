use Rattle.template_program_answers.proofs.Statuses as laws
use Rattle.template_program_answers.proofs.six_is_want.Goals as goal

pub returns : goal.returns
returns c = laws.six_is_want
