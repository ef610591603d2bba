use Rattle.template_machine_codes.proofs.Keyed as laws
use Rattle.template_machine_codes.proofs.streams.every_first_run_ends.Goals as goal

pub returns : goal.returns
returns c = laws.every_first_run_ends
