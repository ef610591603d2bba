use Rattle.template_compiler_codegen.proofs.Macros as laws
use Rattle.template_compiler_codegen.proofs.macros_perform.Goals as goal

pub returns : goal.returns
returns c = laws.macros_perform
