use Rattle.template_builtins_layout.proofs.Tagging.{no_end, start_and_end}
use Rattle.template_builtins_layout.proofs.tags.around_tag.Goals as goal

pub returns-in_err-after-clause-parts : goal.returns-in_err-after-clause-parts
returns-in_err-after-clause-parts c =
    rw c.from_residual-in_err-after.ensures
    (no_end c.args.start.now c.args.finish.now c.args.text.now c.in_ok-before.before.now c.in_ok-before.inner.now c.requires.some_start c.in_ok-before.ensures.cases c.in_err-after.ensures.cases)

pub returns-clause-parts : goal.returns-clause-parts
returns-clause-parts c =
    start_and_end c.args.start.now c.args.finish.now c.args.text.now c.in_ok-before.before.now c.in_ok-before.inner.now c.in_ok-after.field-0-0.now c.in_ok-after.after.now
    c.requires.some_start c.requires.some_finish c.in_ok-before.ensures.cases c.in_ok-after.ensures.cases
