use Rattle.template_machine_codes.proofs.Alike as laws
use Rattle.template_machine_codes.proofs.codes_mean_keys.Goals as goal

pub returns : goal.returns
returns c = laws.codes_mean_keys
