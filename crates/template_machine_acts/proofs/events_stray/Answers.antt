use Rattle.template_machine_acts.proofs.Acting as laws
use Rattle.template_machine_acts.proofs.events_stray.Goals as goal

pub returns : goal.returns
returns g c = record { breaks = laws.breaks_astray _; stuck = laws.stuck_astray _ }
