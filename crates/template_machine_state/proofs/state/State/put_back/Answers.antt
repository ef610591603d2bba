-- There is room for what stays open.
use Rattle.template_machine_state.proofs.Room.{left_room}
use Rattle.template_machine_state.proofs.state.State.put_back.Goals as goal

pub invariant_of-self : goal.invariant_of-self
invariant_of-self c = left_room _ _ _ _ c.cut_frames.new.ctx c.leave.new.self c.cut_frames.new.closed c.leave.ensures c.cut_frames.ensures.room
