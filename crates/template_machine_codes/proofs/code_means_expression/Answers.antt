use Rattle.template_machine_codes.proofs.Alike as laws
use Rattle.template_machine_codes.proofs.code_means_expression.Goals as goal

pub returns : goal.returns
returns c = laws.code_means_expression
