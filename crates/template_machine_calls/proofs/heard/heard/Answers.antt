use Rattle.std.proofs.Common.{Option, sym, ap, subst, ◌∙◌}
use Rattle.template_callables.specs.Callbacks.{AnswersUnder}
use Rattle.template_callables.specs.declared.answer.Answer.{Answer}
use Rattle.template_compiler_process.specs.Process.{fails}
use Rattle.template_machine_meaning.specs.Plans.{replies}
use Rattle.template_machine_meaning.specs.Replies.{told}
use Rattle.template_machine_calls.proofs.Saying.{said_none, said_some}
use Rattle.template_machine_calls.proofs.heard.heard.Goals as goal

pub returns-in-Some-clause-comes : goal.returns-in-Some-clause-comes
returns-in-Some-clause-comes c a pending go says view args answers =
    said_some a pending go c.args.state.now c.args.kind view args says c.in-Some.given _ _
    (subst (λ (o : Option Answer). AnswersUnder says view args o) c.in-Some.is answers) (c.come_of.ensures.comes a pending go)

pub returns-in-None-clause-comes : goal.returns-in-None-clause-comes
returns-in-None-clause-comes c a pending go says view args answers =
    said_none a pending go c.args.state.now c.args.kind view args says (subst (λ (o : Option Answer). AnswersUnder says view args o) c.in-None.is answers)
    ∙ ap (λ ks. replies (told c.args.state.now (fails ks))) (sym c.new.ensures)
