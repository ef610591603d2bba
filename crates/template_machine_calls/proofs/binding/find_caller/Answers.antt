use Rattle.std.proofs.Common.{sym, ap, ◌∙◌}
use Rattle.std.specs.Prelude.{unwrap_or}
use Rattle.template_values_model.specs.Val.{undefined}
use Rattle.template_machine_meaning.specs.Macros.{caller_locals}
use Rattle.template_machine_calls.specs.Binding.{keywords_in}
use Rattle.template_machine_calls.proofs.Handing.{caller_some}
use Rattle.template_machine_calls.proofs.binding.find_caller.Goals as goal

pub returns-then-not-takes_caller-clause-found : goal.returns-then-not-takes_caller-clause-found
returns-then-not-takes_caller-clause-found c = ap (λ b. caller_locals b (keywords_in c.args.keywords.now)) (sym c.if-not-takes_caller.true)

pub returns-clause-found : goal.returns-clause-found
returns-clause-found c =
    sym (ap (λ b. caller_locals b (keywords_in c.args.keywords.now)) c.if-not-takes_caller.false
    ∙ caller_some c.args.keywords.now c.in_ok-caller.caller c.requires
    (c.in_ok-caller.ensures.given ∙ ap (λ o. unwrap_or o undefined) c.keyword.ensures))
