use Rattle.template_machine_meaning.proofs.Handed as laws
use Rattle.template_machine_meaning.proofs.kept.expression_faults_are_meant.Goals as goal

pub returns : goal.returns
returns c = laws.expression_faults_are_meant
