use Rattle.template_compiler_code_shapes.proofs.Certificates as laws
use Rattle.template_compiler_code_shapes.proofs.certified_is_good.Goals as goal

pub returns : goal.returns
returns c = laws.good_by
