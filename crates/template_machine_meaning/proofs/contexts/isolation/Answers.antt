use Rattle.template_machine_meaning.proofs.Isolated.{isolates_names}
use Rattle.template_machine_meaning.proofs.contexts.isolation.Goals as goal

pub returns : goal.returns
returns c = isolates_names
