use Rattle.template_program_contexts.proofs.Alone.{one_document, no_document}
use Rattle.template_program_contexts.proofs.laws.context_laws.Goals as goal

pub returns : goal.returns
returns c = record { one = one_document; none = no_document }
