use Rattle.template_compiler_code.proofs.Rising as laws
use Rattle.template_compiler_code.proofs.code_rises.Goals as goal

pub returns : goal.returns
returns c = laws.exec_more
