use Rattle.template_machine_environment_histories.proofs.Deciding as laws
use Rattle.template_machine_environment_histories.proofs.agreeing_come_to_the_same.Goals as goal

pub returns : goal.returns
returns g c = laws.agreeing_come_to_the_same _ _
