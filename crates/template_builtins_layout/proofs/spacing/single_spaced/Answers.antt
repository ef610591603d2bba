use Rattle.std.proofs.Common.{sym, ap, ◌∙◌}
use Rattle.template_builtins_layout.specs.Spacing.{single_spaced}
use Rattle.template_builtins_layout.proofs.Gaps.{single_spaced_first, single_spaced_none, spaced_whole}
use Rattle.template_builtins_layout.proofs.spacing.single_spaced.Goals as goal

pub returns-in_default : goal.returns-in_default
returns-in_default c =
    c.new-out.ensures.bytes
    ∙ sym (single_spaced_none _ (rw c.split_whitespace-words.ensures.rest c.utf8.text) c.in_default.ensures.steps.1)
    ∙ ap single_spaced c.split_whitespace-words.ensures.rest

pub push_spaced-requires : goal.push_spaced-requires
push_spaced-requires c =
    let step = c.in-Some.ensures.steps in
    (single_spaced_first _ _ _ _ (rw c.split_whitespace-words.ensures.rest c.utf8.text) step.1 step.2 step.3 step.4 step.5).0

pub returns : goal.returns
returns c =
    let step = c.in-Some.ensures.steps in
    let one = single_spaced_first _ _ _ _ (rw c.split_whitespace-words.ensures.rest c.utf8.text) step.1 step.2 step.3 step.4 step.5 in
    spaced_whole _ _ _ _ _ _ _ c.new-out.ensures.bytes c.in_ok-push_str.ensures.bytes c.in_ok-push_spaced.ensures c.split_whitespace-words.ensures.rest one.1
