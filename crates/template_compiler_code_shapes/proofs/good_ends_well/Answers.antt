use Rattle.template_compiler_code_shapes.proofs.Ending as laws
use Rattle.template_compiler_code_shapes.proofs.good_ends_well.Goals as goal

pub returns : goal.returns
returns c = laws.ends_by
