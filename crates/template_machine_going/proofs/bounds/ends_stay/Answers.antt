use Rattle.template_machine_going.proofs.Staying as laws
use Rattle.template_machine_going.proofs.bounds.ends_stay.Goals as goal

pub returns : goal.returns
returns g c = laws.ends_stay _
