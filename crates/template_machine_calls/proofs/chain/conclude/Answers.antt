use Rattle.std.proofs.Common.{Ok, ap, subst}
use Rattle.template_callables.specs.Answers.{asked_by}
use Rattle.template_machine_meaning.specs.Calls.{beyond}
use Rattle.template_machine_meaning.specs.Keys.{Around}
use Rattle.template_machine_calls.specs.Hosted.{around_under}
use Rattle.template_machine_calls.specs.Left.{KeepsWorld, left_by, reached_by, turnings_in, with_turnings}
use Rattle.template_machine_calls.specs.declared.outcome.Outcome.{Outcome}
use Rattle.template_machine_calls.proofs.Chaining.{kept_behind, planned_as}
use Rattle.template_machine_calls.proofs.chain.conclude.Goals as goal

pub returns-in-Value-clause-comes : goal.returns-in-Value-clause-comes
returns-in-Value-clause-comes g c a =
    let around : Around = around_under c.args.rules (g.H.Callbacks.callables c.args.host.now) a in
    ap (λ o. with_turnings (turnings_in c.args.turnings.items) (left_by around 0 (beyond around 0 c.args.levels) o c.args.state.now)) c.in-Value.is

pub returns-in-Further-clause-comes : goal.returns-in-Further-clause-comes
returns-in-Further-clause-comes g c a =
    let around : Around = around_under c.args.rules (g.H.Callbacks.callables c.args.host.now) a in
    let ts = turnings_in c.args.turnings.items in
    planned_as (reached_by around) (with_turnings ts (left_by around 0 (beyond around 0 c.args.levels) c.args.outcome c.args.state.now))
    (with_turnings ts (beyond around 0 c.args.levels c.args.state.now (asked_by c.in-Further.further))) _ _
    (ap (λ o. with_turnings ts (left_by around 0 (beyond around 0 c.args.levels) o c.args.state.now)) c.in-Further.is) (c.go_on.ensures.comes a)

pub returns-in-Enters-clause-comes : goal.returns-in-Enters-clause-comes
returns-in-Enters-clause-comes g c a =
    let around : Around = around_under c.args.rules (g.H.Callbacks.callables c.args.host.now) a in
    ap (λ o. with_turnings (turnings_in c.args.turnings.items) (left_by around 0 (beyond around 0 c.args.levels) o c.args.state.now)) c.in-Enters.is

pub returns-in-Value-clause-kept : goal.returns-in-Value-clause-kept
returns-in-Value-clause-kept g c w before = subst (λ (o : Outcome). KeepsWorld (Ok o) w c.args.state.now) c.in-Value.is before

pub returns-in-Further-clause-kept : goal.returns-in-Further-clause-kept
returns-in-Further-clause-kept g c w before =
    kept_behind _ w c.args.state.now c.go_on.new.state (subst (λ (o : Outcome). KeepsWorld (Ok o) w c.args.state.now) c.in-Further.is before) c.go_on.ensures.kept

pub returns-in-Enters-clause-kept : goal.returns-in-Enters-clause-kept
returns-in-Enters-clause-kept g c w before = subst (λ (o : Outcome). KeepsWorld (Ok o) w c.args.state.now) c.in-Enters.is before
