use Rattle.template_compiler_walk.proofs.Rising as laws
use Rattle.template_compiler_walk.proofs.rounds_rise.Goals as goal

pub returns : goal.returns
returns c = laws.rounds_rise
