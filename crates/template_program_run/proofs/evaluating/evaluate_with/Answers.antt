use Rattle.std.proofs.Common.{ℕ, ◌∙◌, inr, subst}
use Rattle.template_machine_environment_settings.specs.Extras.{Brought}
use Rattle.template_machine_environment_settings.specs.Reading.{brought_of, registry_of}
use Rattle.template_program_expression.specs.Evaluations.{Evaluates}
use Rattle.template_program_run.specs.Brought.{program_answers}
use Rattle.template_program_run.specs.Served.{served_under}
use Rattle.template_program_run.proofs.Counting.{evaluation_counts, one_more}
use Rattle.template_program_run.proofs.evaluating.evaluate_with.Goals as goal

pub returns-clause-answers : goal.returns-clause-answers
returns-clause-answers g c =
    let e = c.in-Ok-environment_of in
    let served = served_under c.args.options in
    let told : Brought → ℕ → Type 0 = λ brought id. Evaluates brought (registry_of e.environment) c.args.expression.as_json c.args.expression.text.now c.in-Ok.context id
    c.evaluate.result (g.S.Sink.taken c.args.sink.now) (g.S.Sink.taken c.evaluate.new.sink) (g.S.Sink.failures c.args.sink.now) (g.S.Sink.failures c.evaluate.new.sink) in
    let brought = subst (λ (b : Brought). told b c.environment_of.new.ids) e.ensures.brought c.evaluate.ensures.evaluates in
    let counted = subst (λ (id : ℕ). told served.brought id) (e.ensures.counted ∙ one_more c.args.ids.now e.ensures.had_one) brought in
    inr (c.in-Ok.context, c.in-Ok.ensures.has, inr (e.ensures.had_one, e.ensures.accepted, (registry_of e.environment, e.ensures.made, counted)))

pub returns-clause-counted : goal.returns-clause-counted
returns-clause-counted g c =
    let e = c.in-Ok-environment_of in
    evaluation_counts (brought_of program_answers e.environment) (registry_of e.environment) _ _ _ _ _ _ _ _ _ c.evaluate.ensures.evaluates
    c.args.ids.now c.evaluate.new.ids e.ensures.counted c.evaluate.ensures.counted
