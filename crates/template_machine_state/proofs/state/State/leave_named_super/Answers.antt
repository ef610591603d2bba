-- Whatever was taken of the captures, those that were open are left.
use Rattle.std.proofs.Common.{true}
use Rattle.template_machine_state.proofs.Worlds.{ended_with}
use Rattle.template_machine_state.proofs.state.State.leave_named_super.Goals as goal

pub returns-clause-ended : goal.returns-clause-ended
returns-clause-ended c =
    rw (← c.self.view_is)
    (ended_with true _ c.args.caller c.self.inside c.args.name.now c.args.place _ _ c.caller.view_is (c.leave_super.ensures true) c.take_written-written.ensures.left)
