use Rattle.template_machine_renders.proofs.Blocks as laws
use Rattle.template_machine_renders.proofs.blocks_render.Goals as goal

pub returns : goal.returns
returns g c = laws.blocks_render _
