use Rattle.template_compiler_walk.proofs.Rising as laws
use Rattle.template_compiler_walk.proofs.macros_rise.Goals as goal

pub returns : goal.returns
returns c = laws.macros_rise
