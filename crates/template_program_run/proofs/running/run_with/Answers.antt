use Rattle.std.proofs.Common.{◌≡◌, ◌∙◌, ap, sym, subst, rules, List, ℕ}
use Rattle.template_machine_surroundings.specs.Rule.{IsEscapeOf}
use Rattle.template_machine_environment_settings.specs.Compiled.{standing_of}
use Rattle.template_machine_environment_settings.specs.Extras.{Brought}
use Rattle.template_machine_environment_settings.specs.Isolation.{AskNoNames}
use Rattle.template_machine_environment_settings.specs.Reading.{brought_of, registry_of}
use Rattle.template_machine_environment_settings.specs.Views.{compiled_in, environment_of, source_of}
use Rattle.template_program_parts.specs.Context.{text_pairs}
use Rattle.template_program_run.specs.Answers.{Rendered, TellsNames}
use Rattle.template_program_run.specs.Brought.{program_answers}
use Rattle.template_program_run.specs.Environments.{IsMade}
use Rattle.template_program_run.specs.Given.{given_in}
use Rattle.template_program_run.specs.Served.{served_under}
use Rattle.template_program_parts.specs.declared.command.Command.TheVariants as asked
use Rattle.template_program_run.proofs.Bringing.{asks_none}
use Rattle.template_program_run.proofs.Counting.{one_more, rendered_counts, told_counts}
use Rattle.template_program_run.proofs.MainStands.{answers_done, rendered_does}
use Rattle.template_program_run.proofs.running.run_with.Goals as goal

-- with what was brought no callable asks for a name
pub tell_names-requires : goal.tell_names-requires
tell_names-requires g c =
    subst (λ (k : Brought). AskNoNames k.callables) (sym c.in-Ok-environment_of.ensures.brought)
    (asks_none c.builtins_ask_no_names.ensures c.args.options.builtins)

pub returns-in-Render-clause-answers : goal.returns-in-Render-clause-answers
returns-in-Render-clause-answers g c =
    let e = c.in-Ok-environment_of in
    let t = c.in-Ok-get_template in
    let made = subst (λ x. IsMade (served_under c.args.options) c.args.request.now (text_pairs c.args.templates.now) c.args.ids.now (registry_of x)) (sym t.ensures.here) e.ensures.made in
    let main = c.as_str.ensures.value in
    let served = served_under c.args.options in
    let brought : brought_of program_answers (environment_of t.template) ≡ served.brought =
    ap (brought_of program_answers) t.ensures.here ∙ e.ensures.brought in
    let rendered = subst (λ (b : Brought). Rendered b (registry_of (environment_of t.template)) (standing_of (compiled_in t.template.compiled))
    c.in-Ok.context c.environment_of.new.ids c.render.result (g.S.Sink.taken c.args.sink.now) (g.S.Sink.taken c.render.new.sink) (g.S.Sink.failures c.args.sink.now) (g.S.Sink.failures c.render.new.sink)) brought c.render.ensures.rendered in
    answers_done served c.args.request.now (text_pairs c.args.templates.now) (given_in c.args.context) c.args.ids.now c.render.result _ _ _ _
    c.in-Ok.context c.in-Ok.ensures.has e.ensures.had_one e.ensures.accepted (registry_of (environment_of t.template)) made (compiled_in t.template.compiled)
    (t.ensures.named ∙ main) (search rules) (subst (λ (n : List ℕ). IsEscapeOf (source_of t.template).escapes n (compiled_in t.template.compiled).escape) (t.ensures.named ∙ main) c.render.ensures.rule)
    asked.Render (search rules)
    (rendered_does served c.args.request.now (given_in c.args.context) c.args.ids.now c.render.result _ _ _ _ c.in-Ok.context c.in-Ok.ensures.has (search rules)
    (registry_of (environment_of t.template)) (standing_of (compiled_in t.template.compiled)) c.environment_of.new.ids
    (e.ensures.counted ∙ one_more c.args.ids.now e.ensures.had_one) rendered)

pub returns-in-Names-clause-answers : goal.returns-in-Names-clause-answers
returns-in-Names-clause-answers g c =
    let e = c.in-Ok-environment_of in
    let t = c.in-Ok-get_template in
    let main = c.as_str.ensures.value in
    let served = served_under c.args.options in
    let told = subst (λ (b : Brought). TellsNames b c.args.options.names_as_json (registry_of e.environment) (standing_of (compiled_in t.template.compiled))
    c.tell_names.result (g.S.Sink.taken c.args.sink.now) (g.S.Sink.taken c.tell_names.new.sink) (g.S.Sink.failures c.args.sink.now) (g.S.Sink.failures c.tell_names.new.sink)) e.ensures.brought c.tell_names.ensures.told in
    answers_done served c.args.request.now (text_pairs c.args.templates.now) (given_in c.args.context) c.args.ids.now c.tell_names.result _ _ _ _
    c.in-Ok.context c.in-Ok.ensures.has e.ensures.had_one e.ensures.accepted (registry_of e.environment) e.ensures.made (compiled_in t.template.compiled)
    (t.ensures.named ∙ main) (search rules) (subst (λ (n : List ℕ). IsEscapeOf (source_of t.template).escapes n (compiled_in t.template.compiled).escape) (t.ensures.named ∙ main) c.tell_names.ensures.rule)
    asked.Names (search rules) told

pub returns-in-Render-clause-counted : goal.returns-in-Render-clause-counted
returns-in-Render-clause-counted g c =
    let t = c.in-Ok-get_template.template in
    rendered_counts _ (registry_of (environment_of t)) (standing_of (compiled_in t.compiled)) c.in-Ok.context c.environment_of.new.ids c.render.result _ _ _ _ c.render.ensures.rendered
    c.args.request.now.command (search rules) c.args.ids.now c.render.new.ids c.in-Ok-environment_of.ensures.counted c.render.ensures.counted

pub returns-in-Names-clause-counted : goal.returns-in-Names-clause-counted
returns-in-Names-clause-counted g c =
    told_counts (brought_of program_answers c.in-Ok-environment_of.environment) c.args.options.names_as_json (registry_of c.in-Ok-environment_of.environment) (standing_of (compiled_in c.in-Ok-get_template.template.compiled)) c.tell_names.result _ _ _ _ c.tell_names.ensures.told
    c.args.request.now.command (search rules) c.args.ids.now c.environment_of.new.ids c.in-Ok-environment_of.ensures.counted
