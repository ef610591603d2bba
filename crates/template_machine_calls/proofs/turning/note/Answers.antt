use Rattle.template_callables.specs.Answers.{asked_by}
use Rattle.template_machine_calls.proofs.Turned.{none_noted, one_noted}
use Rattle.template_machine_calls.proofs.turning.note.Goals as goal

pub returns-in_ok-push-in-Some-clause-noted : goal.returns-in_ok-push-in-Some-clause-noted
returns-in_ok-push-in-Some-clause-noted c =
    one_noted c.args.turnings.now.items c.push.new.self.items c.in-Some.turning c.turning_for.result (asked_by c.args.further.now) c.in_ok-push-in-Some.ensures.items
    c.turning_for.ensures c.in-Some.is

pub returns-in-None-clause-noted : goal.returns-in-None-clause-noted
returns-in-None-clause-noted c = none_noted c.args.turnings.now.items c.turning_for.result (asked_by c.args.further.now) c.turning_for.ensures c.in-None.is
