use Rattle.template_compiler_walk.proofs.Macros.{caller_body_found, macro_found}
use Rattle.template_compiler_walk.proofs.numbers.macros_find_their_bodies.Goals as goal

pub returns-clause-macros : goal.returns-clause-macros
returns-clause-macros c = macro_found

pub returns-clause-callers : goal.returns-clause-callers
returns-clause-callers c = caller_body_found
