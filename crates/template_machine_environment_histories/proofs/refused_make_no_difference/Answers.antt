use Rattle.template_machine_environment_histories.proofs.Deciding as laws
use Rattle.template_machine_environment_histories.proofs.refused_make_no_difference.Goals as goal

pub returns : goal.returns
returns g c = laws.refused_make_no_difference _ _
