-- There is room for the loop of the rounds.
use Rattle.std.proofs.Common.{◌≡◌, ◌∙◌, ap, is_some}
use Rattle.template_values_model.specs.Val.{loop_record}
use Rattle.template_machine_meaning.specs.World.{Loop}
use Rattle.template_machine_state.proofs.Room.{entered_room, variable_there}
use Rattle.template_machine_state.proofs.state.State.enter_rounds.Goals as goal

pub invariant_of-self-2 : goal.invariant_of-self-2
invariant_of-self-2 c =
    let i = c.self.inside in
    let l = c.in_ok-current.current in
    let has : c.args.variable ≡ is_some l.variable =
    variable_there c.args.variable (loop_record i.id i.opened) c.record_of-record.result l c.record_of-record.ensures
    (ap (λ (k : Loop). k.variable) c.in_ok-current.ensures.recursive ∙ ap (λ (k : Loop). k.variable) c.new-2.ensures) in
    entered_room c.for_loop.result l c.args.variable c.frames-frames.result i.ctx c.enter_frame.new.self i.closed c.make_room.new.closed
    c.for_loop.ensures has c.frames-frames.ensures c.make_room.ensures.len c.make_room.ensures.capacity
    (c.make_room.ensures.room c.if-not-make_room.false) c.in_ok-enter_frame.ensures.entered c.self.invariant
