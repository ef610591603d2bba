-- There is room for the loop that is opened.
use Rattle.std.proofs.Common.{◌≡◌, ap, is_some}
use Rattle.template_values_model.specs.Val.{loop_record}
use Rattle.template_machine_meaning.specs.World.{Loop}
use Rattle.template_machine_state.proofs.Room.{pushed_room, variable_there}
use Rattle.template_machine_state.proofs.state.State.open_loop.Goals as goal

pub invariant_of-self-2 : goal.invariant_of-self-2
invariant_of-self-2 c =
    let i = c.self.inside in
    let has : c.args.variable ≡ is_some c.in-Ok.current.variable =
    variable_there c.args.variable (loop_record i.id i.opened) c.record_of-record.result c.in-Ok.current c.record_of-record.ensures
    (ap (λ (l : Loop). l.variable) c.in-Ok.ensures.made) in
    pushed_room c.args.limit c.for_loop.result c.in-Ok.current c.args.variable c.frames.result i.ctx c.push_frame.new.self i.closed c.make_room.new.closed
    c.push_frame.result c.for_loop.ensures has c.frames.ensures c.make_room.ensures.len c.make_room.ensures.capacity
    (c.make_room.ensures.room c.if-not-make_room.false) c.push_frame.ensures c.self.invariant
