use Rattle.template_machine_meaning.proofs.RunsKept as laws
use Rattle.template_machine_meaning.proofs.kept.faults_are_meant.Goals as goal

pub returns : goal.returns
returns c = laws.faults_are_meant
