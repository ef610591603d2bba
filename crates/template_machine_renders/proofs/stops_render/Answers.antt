use Rattle.template_machine_renders.proofs.Coming as laws
use Rattle.template_machine_renders.proofs.stops_render.Goals as goal

pub returns : goal.returns
returns g c = laws.stops_render g.row.X.Denot
