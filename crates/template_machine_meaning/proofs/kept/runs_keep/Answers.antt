use Rattle.template_machine_meaning.proofs.RunsKept as laws
use Rattle.template_machine_meaning.proofs.kept.runs_keep.Goals as goal

pub returns : goal.returns
returns c = laws.runs_keep
