use Rattle.std.proofs.Common.{string_bytes}
use Rattle.std.specs.BTreeSet.{contains_text}
use Rattle.template_program_check.proofs.Walking.{templates_next, templates_none}
use Rattle.template_program_check.proofs.unknown.lines_of.Goals as goal

pub loop-template-preserved : goal.loop-template-preserved
loop-template-preserved c = λ after rest.
    c.loop-template.invariant after
    (templates_next (contains_text c.args.stored.now) c.args.templates.now c.loop-template.template-index c.template-item.result c.loop-template-test.true
    c.template-item.is (string_bytes c.loop-template.lines) (string_bytes c.tell_template.new.lines) c.in_ok-tell_template.ensures after rest)

pub returns : goal.returns
returns c =
    c.loop-template.invariant (string_bytes c.loop-template.lines)
    (templates_none (contains_text c.args.stored.now) c.args.templates.now c.loop-template.template-index c.loop-template-test.false
    (string_bytes c.loop-template.lines))
