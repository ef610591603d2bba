use Rattle.template_compiler_code_shapes.proofs.Going as laws
use Rattle.template_compiler_code_shapes.proofs.good_goes_on.Goals as goal

pub returns : goal.returns
returns c = laws.goes_on
