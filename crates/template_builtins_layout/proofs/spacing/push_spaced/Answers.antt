use Rattle.std.proofs.Common.{sym, ◌∙◌, append-nil}
use Rattle.template_builtins_layout.proofs.Gaps.{goes_on, spaced_next, spaced_none}
use Rattle.template_builtins_layout.proofs.spacing.push_spaced.Goals as goal

pub loop-word-preserved : goal.loop-word-preserved
unfolding lib.Utf8.encode
loop-word-preserved c =
    let held = c.loop-word.invariant in
    let step = c.in-Some.ensures.steps in
    let one = spaced_next _ _ _ _ held.0 step.1 step.2 step.3 step.4 step.5 in (
      one.0,
      goes_on _ _ _ _ _ _ _ c.in_ok-push.ensures.bytes c.in_ok-push_str.ensures.bytes one.1 held.1,
    )

pub returns : goal.returns
returns c = sym (append-nil _) ∙ rw (spaced_none _ c.loop-word.invariant.0 c.in-None.ensures.steps.1) at c.loop-word.invariant.1
