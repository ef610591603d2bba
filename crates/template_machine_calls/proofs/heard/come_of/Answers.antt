use Rattle.std.proofs.Common.{inl, sym, ap, subst, ◌∙◌}
use Rattle.template_callables.specs.Answers.{Answers, asked_by}
use Rattle.template_callables.specs.declared.answer.Answer.{Answer}
use Rattle.template_compiler_process.specs.Process.{value}
use Rattle.template_machine_meaning.specs.Plans.{replies}
use Rattle.template_machine_meaning.specs.Replies.{changed}
use Rattle.template_machine_calls.specs.Left.{left_by}
use Rattle.template_machine_calls.proofs.Chaining.{err_planned}
use Rattle.template_machine_calls.proofs.Saying.{stated_done, stated_failed, stated_more}
use Rattle.template_machine_calls.proofs.heard.come_of.Goals as goal

pub returns-in_err-set_temps-in-Done-clause-comes : goal.returns-in_err-set_temps-in-Done-clause-comes
returns-in_err-set_temps-in-Done-clause-comes c a pending go stated answers =
    err_planned (left_by a pending go) _ _ _ _ (inl c.in_err-set_temps-in-Done.ensures.refused) c.from_residual.ensures.1

pub returns-in_ok-set_temps-in-Done-clause-comes : goal.returns-in_ok-set_temps-in-Done-clause-comes
returns-in_ok-set_temps-in-Done-clause-comes c a pending go stated answers =
    stated_done a pending go c.args.state.now stated _ _ (subst (λ (k : Answer). Answers stated k) c.in-Done.is answers)
    ∙ ap (λ t. replies (changed t (value c.in-Done.value))) (sym c.in_ok-set_temps-in-Done.ensures.set)

pub returns-in-Fault-clause-comes : goal.returns-in-Fault-clause-comes
returns-in-Fault-clause-comes c a pending go stated answers =
    stated_failed a pending go c.args.state.now stated _ _ (subst (λ (k : Answer). Answers stated k) c.in-Fault.is answers) c.into.ensures

pub returns-in_err-set_temps-in-More-clause-comes : goal.returns-in_err-set_temps-in-More-clause-comes
returns-in_err-set_temps-in-More-clause-comes c a pending go stated answers =
    err_planned (left_by a pending go) _ _ _ _ (inl c.in_err-set_temps-in-More.ensures.refused) c.from_residual-in_err-set_temps-in-More.ensures.1

pub returns-in_ok-set_temps-in-More-clause-comes : goal.returns-in_ok-set_temps-in-More-clause-comes
returns-in_ok-set_temps-in-More-clause-comes c a pending go stated answers =
    stated_more a pending go c.args.state.now stated _ _ (subst (λ (k : Answer). Answers stated k) c.in-More.is answers)
    ∙ ap (λ t. go t (asked_by c.in-More.further)) (sym c.in_ok-set_temps-in-More.ensures.set)
