use Rattle.std.specs.BTreeSet.{contains_text}
use Rattle.template_program_check.specs.Names.{is_stored_in}
use Rattle.template_program_check.proofs.Walking.{stored_templates_next, stored_templates_none}
use Rattle.template_program_check.proofs.stored.stored_names.Goals as goal

pub loop-template-preserved : goal.loop-template-preserved
loop-template-preserved c = λ name.
    stored_templates_next c.args.templates.now c.loop-template.template-index c.template-item.result c.loop-template-test.true c.template-item.is name
    (contains_text c.loop-template.names name) (contains_text c.add_stored.new.names name) (is_stored_in c.args.templates.now name)
    (c.in_ok-add_stored.ensures name) (c.loop-template.invariant name)

pub returns : goal.returns
returns c = λ name.
    stored_templates_none c.args.templates.now c.loop-template.template-index c.loop-template-test.false name (contains_text c.loop-template.names name)
    (is_stored_in c.args.templates.now name) (c.loop-template.invariant name)
