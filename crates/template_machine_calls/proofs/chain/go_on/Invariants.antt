-- What is asked further is left of what was asked first.
use Rattle.std.proofs.Common.{◌≡◌, ◌-◌}
use Rattle.template_callables.specs.Answers.{asked_by}
use Rattle.template_machine_meaning.specs.Calls.{beyond}
use Rattle.template_machine_meaning.specs.Keys.{Around}
use Rattle.template_machine_state.specs.Changes.{OnlyTemps}
use Rattle.template_machine_calls.specs.Hosted.{around_under}
use Rattle.template_machine_calls.specs.Left.{turnings_in, with_turnings}
use Rattle.template_machine_calls.proofs.chain.go_on.Given as goal

abbrev pub invariant-loop-pending : goal.invariant-loop-pending
invariant-loop-pending g l = record {
  plan : (a : Around) → let around = around_under l.rules (g.H.Callbacks.callables l.host) a in
      with_turnings (turnings_in l.fn.turnings.items) (beyond around 0 l.fn.levels l.fn.state (asked_by l.fn.further))
      ≡ with_turnings (turnings_in l.turnings.items) (beyond around l.pending (l.fn.levels - l.pending) l.state (asked_by l.next));
  kept : OnlyTemps l.fn.state l.state;
}

abbrev pub decreases-loop-pending : goal.decreases-loop-pending
decreases-loop-pending g l = l.fn.levels - l.pending
