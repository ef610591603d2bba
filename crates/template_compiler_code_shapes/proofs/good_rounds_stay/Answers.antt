use Rattle.template_compiler_code_shapes.proofs.Rounding as laws
use Rattle.template_compiler_code_shapes.proofs.good_rounds_stay.Goals as goal

pub returns : goal.returns
returns c = laws.rounds_stay
