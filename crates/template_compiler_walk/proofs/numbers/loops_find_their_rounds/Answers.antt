use Rattle.template_compiler_walk.proofs.Rounds.{rounds_found}
use Rattle.template_compiler_walk.proofs.numbers.loops_find_their_rounds.Goals as goal

pub returns : goal.returns
returns c = rounds_found
