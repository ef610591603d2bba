use Rattle.template_compiler_codegen.proofs.Unfound as laws
use Rattle.template_compiler_codegen.proofs.numbers_agree.Goals as goal

pub returns : goal.returns
returns c = laws.numbers_agree
