use Rattle.template_compiler_process.proofs.Below.{below-refl, below-trans}
use Rattle.template_compiler_process.proofs.below_is_an_order.Goals as goal

pub returns : goal.returns
returns c = record { itself = below-refl; follows = below-trans }
