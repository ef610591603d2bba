use Rattle.std.proofs.Common.{[]}
use Rattle.template_compiler_names.proofs.Laws.{on_ok}
use Rattle.template_compiler_names.proofs.state.Names.find_alone.Goals as goal

pub returns-else-self : goal.returns-else-self
returns-else-self c = on_ok c.find_plain.result (λ goes. goes []) c.find_plain.ensures
