use Rattle.template_machine_renders.proofs.Coming as laws
use Rattle.template_machine_renders.proofs.ends_render.Goals as goal

pub returns : goal.returns
returns c = laws.ends_render
