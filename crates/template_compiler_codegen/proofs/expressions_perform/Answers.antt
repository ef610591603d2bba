use Rattle.template_compiler_codegen.proofs.Whole as laws
use Rattle.template_compiler_codegen.proofs.expressions_perform.Goals as goal

pub returns : goal.returns
returns c = laws.expressions_perform
