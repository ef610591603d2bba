use Rattle.std.proofs.Common.{◌+◌, ◌-◌, Ok, inl, sym, ap, subst, ◌∙◌, arith}
use Rattle.template_callables.specs.Answers.{asked_by}
use Rattle.template_compiler_process.specs.Process.{fails}
use Rattle.template_machine_meaning.specs.Calls.{beyond}
use Rattle.template_machine_meaning.specs.Keys.{Around}
use Rattle.template_machine_meaning.specs.Plans.{Plan, replies}
use Rattle.template_machine_meaning.specs.Replies.{told}
use Rattle.template_machine_calls.specs.Hosted.{around_under}
use Rattle.template_machine_calls.specs.Left.{KeepsWorld, entering_plan, left_by, reached_by, turnings_in, value_left, with_turnings}
use Rattle.template_machine_calls.specs.declared.outcome.Outcome.{Outcome}
use Rattle.template_machine_calls.proofs.Chaining.{err_kept, err_planned, further_failed, none_further, one_further, only_temps_on, open_behind, stop_planned}
use Rattle.template_machine_calls.proofs.chain.go_on.Goals as goal

pub loop-pending-preserved : goal.loop-pending-preserved
loop-pending-preserved g c = record {
  plan = λ a.
      let around : Around = around_under c.args.rules (g.H.Callbacks.callables c.args.host.now) a in
      let left = c.args.levels - c.loop-pending.pending in
      let onward = c.loop-pending.pending + 1 in
      let later = c.args.levels - onward in
      let plan : Plan = with_turnings (turnings_in c.args.turnings.items) (beyond around 0 c.args.levels c.args.state.now (asked_by c.args.further)) in
      one_further around plan (beyond around onward later c.ask.new.state (asked_by c.in-Further.further)) (turnings_in c.loop-pending.turnings.items) (turnings_in c.note.new.turnings.items) c.loop-pending.pending onward left later c.loop-pending.state (asked_by c.loop-pending.next)
      (c.loop-pending.invariant.plan a) (omega arith) (omega arith) c.in_ok-note.ensures.noted
      (c.in_ok-outcome.ensures.comes a onward (beyond around onward later) ∙ ap (λ o. left_by around onward (beyond around onward later) o c.ask.new.state) c.in-Further.is);
  kept = only_temps_on c.args.state.now c.loop-pending.state c.ask.new.state c.loop-pending.invariant.kept
      (subst (λ (o : Outcome). KeepsWorld (Ok o) c.loop-pending.state c.ask.new.state) c.in-Further.is c.in_ok-outcome.ensures.kept);
}

pub returns-in_err-note-clause-comes : goal.returns-in_err-note-clause-comes
returns-in_err-note-clause-comes g c a =
    err_planned (reached_by (around_under c.args.rules (g.H.Callbacks.callables c.args.host.now) a)) _ _ _ _ (inl c.in_err-note.ensures.refused) c.from_residual.ensures.1

pub returns-in_err-note-clause-kept : goal.returns-in_err-note-clause-kept
returns-in_err-note-clause-kept g c = err_kept _ _ c.args.state.now c.loop-pending.state c.loop-pending.invariant.kept c.from_residual.ensures.1

pub returns-in_err-outcome-clause-comes : goal.returns-in_err-outcome-clause-comes
returns-in_err-outcome-clause-comes g c a =
    let around : Around = around_under c.args.rules (g.H.Callbacks.callables c.args.host.now) a in
    let left = c.args.levels - c.loop-pending.pending in
    let onward = c.loop-pending.pending + 1 in
    let later = c.args.levels - onward in
    let plan : Plan = with_turnings (turnings_in c.args.turnings.items) (beyond around 0 c.args.levels c.args.state.now (asked_by c.args.further)) in
    stop_planned (reached_by around) plan _ _ c.ask.new.state
    (further_failed around plan (turnings_in c.loop-pending.turnings.items) (turnings_in c.note.new.turnings.items) c.loop-pending.pending onward left later c.loop-pending.state c.ask.new.state (asked_by c.loop-pending.next) _
    (c.loop-pending.invariant.plan a) (omega arith) (omega arith) c.in_ok-note.ensures.noted (c.in_err-outcome.ensures.comes a onward (beyond around onward later)))
    c.from_residual-in_err-outcome.ensures.1

pub returns-in_err-outcome-clause-kept : goal.returns-in_err-outcome-clause-kept
returns-in_err-outcome-clause-kept g c =
    err_kept _ _ c.args.state.now c.ask.new.state
    (only_temps_on c.args.state.now c.loop-pending.state c.ask.new.state c.loop-pending.invariant.kept c.in_err-outcome.ensures.kept) c.from_residual-in_err-outcome.ensures.1

pub returns-in-Value-clause-comes : goal.returns-in-Value-clause-comes
returns-in-Value-clause-comes g c a =
    let around : Around = around_under c.args.rules (g.H.Callbacks.callables c.args.host.now) a in
    let left = c.args.levels - c.loop-pending.pending in
    let onward = c.loop-pending.pending + 1 in
    let later = c.args.levels - onward in
    let plan : Plan = with_turnings (turnings_in c.args.turnings.items) (beyond around 0 c.args.levels c.args.state.now (asked_by c.args.further)) in
    one_further around plan (value_left c.in-Value.value c.ask.new.state) (turnings_in c.loop-pending.turnings.items) (turnings_in c.note.new.turnings.items) c.loop-pending.pending onward left later c.loop-pending.state (asked_by c.loop-pending.next)
    (c.loop-pending.invariant.plan a) (omega arith) (omega arith) c.in_ok-note.ensures.noted
    (c.in_ok-outcome.ensures.comes a onward (beyond around onward later) ∙ ap (λ o. left_by around onward (beyond around onward later) o c.ask.new.state) c.in-Value.is)

pub returns-in-Value-clause-kept : goal.returns-in-Value-clause-kept
returns-in-Value-clause-kept g c =
    open_behind c.args.state.now c.loop-pending.state c.ask.new.state c.loop-pending.invariant.kept
    (subst (λ (o : Outcome). KeepsWorld (Ok o) c.loop-pending.state c.ask.new.state) c.in-Value.is c.in_ok-outcome.ensures.kept)

pub returns-in-Enters-clause-comes : goal.returns-in-Enters-clause-comes
returns-in-Enters-clause-comes g c a =
    let around : Around = around_under c.args.rules (g.H.Callbacks.callables c.args.host.now) a in
    let left = c.args.levels - c.loop-pending.pending in
    let onward = c.loop-pending.pending + 1 in
    let later = c.args.levels - onward in
    let plan : Plan = with_turnings (turnings_in c.args.turnings.items) (beyond around 0 c.args.levels c.args.state.now (asked_by c.args.further)) in
    one_further around plan (entering_plan around onward c.ask.new.state c.in-Enters.entering) (turnings_in c.loop-pending.turnings.items) (turnings_in c.note.new.turnings.items) c.loop-pending.pending onward left later c.loop-pending.state (asked_by c.loop-pending.next)
    (c.loop-pending.invariant.plan a) (omega arith) (omega arith) c.in_ok-note.ensures.noted
    (c.in_ok-outcome.ensures.comes a onward (beyond around onward later) ∙ ap (λ o. left_by around onward (beyond around onward later) o c.ask.new.state) c.in-Enters.is)

pub returns-in-Enters-clause-kept : goal.returns-in-Enters-clause-kept
returns-in-Enters-clause-kept g c =
    only_temps_on c.args.state.now c.loop-pending.state c.ask.new.state c.loop-pending.invariant.kept
    (subst (λ (o : Outcome). KeepsWorld (Ok o) c.loop-pending.state c.ask.new.state) c.in-Enters.is c.in_ok-outcome.ensures.kept)

pub returns-clause-comes : goal.returns-clause-comes
returns-clause-comes g c a =
    let around : Around = around_under c.args.rules (g.H.Callbacks.callables c.args.host.now) a in
    let plan : Plan = with_turnings (turnings_in c.args.turnings.items) (beyond around 0 c.args.levels c.args.state.now (asked_by c.args.further)) in
    none_further around plan (turnings_in c.loop-pending.turnings.items) c.loop-pending.pending (c.args.levels - c.loop-pending.pending) c.loop-pending.state (asked_by c.loop-pending.next)
    (c.loop-pending.invariant.plan a) (omega arith)
    ∙ ap (λ ks. replies (told c.loop-pending.state (fails ks))) (sym c.new.ensures)

pub returns-clause-kept : goal.returns-clause-kept
returns-clause-kept g c = c.loop-pending.invariant.kept
