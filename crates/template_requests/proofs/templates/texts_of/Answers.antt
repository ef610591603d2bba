use Rattle.template_requests.specs.declared.member.Member.TheVariants.{Templates}
use Rattle.template_requests.proofs.Texts.{err_still, fault_still, lacks_at}
use Rattle.template_requests.proofs.templates.texts_of.Goals as goal

pub returns-in_err-template_of-clause-refused : goal.returns-in_err-template_of-clause-refused
returns-in_err-template_of-clause-refused c =
    let fault = c.in_err-template_of.field-0.0 in
    let lacks = lacks_at c.args.members.now c.loop-member.member-index c.member-item.result c.loop-member-test.true c.member-item.is in
    err_still c.from_residual-in_err-template_of.result fault Templates _ c.from_residual-in_err-template_of.ensures.1
    (fault_still fault Templates lacks c.in_err-template_of.ensures.refused)
