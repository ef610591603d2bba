use Rattle.template_machine_going.proofs.Staying as laws
use Rattle.template_machine_going.proofs.bounds.uncut_stays.Goals as goal

pub returns : goal.returns
returns g c = laws.uncut_stays _
