use Rattle.template_compiler_codegen.proofs.Whole as laws
use Rattle.template_compiler_codegen.proofs.templates_perform.Goals as goal

pub returns : goal.returns
returns c = laws.templates_perform
