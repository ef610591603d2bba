-- The loop stays known, or what is kept of it goes.
use Rattle.template_machine_state.proofs.Closing.{closed_so}
use Rattle.template_machine_state.proofs.state.State.close_loop.Goals as goal

pub returns : goal.returns
returns c = rw (← c.self.view_is) (closed_so c.self.inside c.cut_loop.new.ctx c.cut_loop.new.given c.cut_loop.new.closed c.cut_loop.ensures)
