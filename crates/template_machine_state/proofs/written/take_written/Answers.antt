-- The capture that was opened there is the last one of those that are left of the stack.
use Rattle.std.proofs.Common.{◌≡◌, ◌<◌, IfOk, length, subst, arith}
use Rattle.template_machine_meaning.specs.Captures.{captured}
use Rattle.template_machine_meaning.specs.World.{Capture}
use Rattle.template_machine_state.proofs.Stacks.{opened_there, others_left}
use Rattle.template_machine_state.proofs.written.take_written.Goals as goal

pub returns-clause-given : goal.returns-clause-given
returns-clause-given c =
    subst (λ (d : Capture). IfOk c.end.result (λ v. v ≡ captured c.args.rule d))
    (opened_there c.args.captures.now.items c.truncate.new.self.items c.pop.new.self.items c.in-Some.capture c.args.count c.truncate.ensures.items c.in-Some.ensures.items)
    c.end.ensures.ended

pub returns-clause-left : goal.returns-clause-left
returns-clause-left c =
    let within : c.args.count < length c.args.captures.now.items = omega arith in
    others_left c.args.captures.now.items c.truncate.new.self.items c.pop.new.self.items c.in-Some.capture c.args.count within c.truncate.ensures.items c.in-Some.ensures.items
