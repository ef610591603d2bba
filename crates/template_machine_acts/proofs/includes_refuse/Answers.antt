use Rattle.template_machine_acts.proofs.Refusing as laws
use Rattle.template_machine_acts.proofs.includes_refuse.Goals as goal

pub returns : goal.returns
returns c = record { choices = laws.include_refused; choice = laws.choice_refused; missing = laws.missing_acts; room = laws.room_refused }
