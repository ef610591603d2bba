use Rattle.template_machine_going.proofs.Going as laws
use Rattle.template_machine_going.proofs.acts_go.Goals as goal

pub returns : goal.returns
returns g c = laws.acts_go _
