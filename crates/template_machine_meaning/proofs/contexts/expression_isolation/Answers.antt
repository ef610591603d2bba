use Rattle.template_machine_meaning.proofs.Evaluated.{isolates_expressions}
use Rattle.template_machine_meaning.proofs.contexts.expression_isolation.Goals as goal

pub returns : goal.returns
returns c = isolates_expressions
