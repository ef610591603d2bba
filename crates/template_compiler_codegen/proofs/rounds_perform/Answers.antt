use Rattle.template_compiler_codegen.proofs.Rounds as laws
use Rattle.template_compiler_codegen.proofs.rounds_perform.Goals as goal

pub returns : goal.returns
returns c = laws.rounds_perform
