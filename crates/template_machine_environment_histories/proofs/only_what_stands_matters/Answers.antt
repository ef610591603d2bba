use Rattle.template_machine_environment_histories.proofs.Deciding as laws
use Rattle.template_machine_environment_histories.proofs.only_what_stands_matters.Goals as goal

pub returns : goal.returns
returns g c = laws.leads_through_from
