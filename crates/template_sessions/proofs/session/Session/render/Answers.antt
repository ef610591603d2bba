use Rattle.std.proofs.Common.{List, ap, inl, inr, refl, subst}
use Rattle.template_values_errors.specs.declared.ErrorKind.{ErrorKind}
use Rattle.template_machine_environment_settings.specs.Compiled.{standing_of}
use Rattle.template_machine_environment_settings.specs.Reading.{brought_of, registry_of}
use Rattle.template_machine_environment_settings.specs.Views.{compiled_in, source_of}
use Rattle.template_machine_surroundings.specs.Rule.{IsEscapeOf}
use Rattle.template_program_parts.specs.declared.outcome.Outcome.TheVariants.{Template}
use Rattle.template_program_run.specs.Answers.{Rendered}
use Rattle.template_program_run.specs.Brought.{program_answers}
use Rattle.template_program_run.specs.Given.{given_in}
use Rattle.template_sessions.proofs.Sessions.{renders_found}
use Rattle.template_sessions.proofs.session.Session.render.Goals as goal

pub returns-in-Err-clause-rendered : goal.returns-in-Err-clause-rendered
returns-in-Err-clause-rendered g c = inl (c.in-Err.error, refl, c.in-Err.ensures.refused, (refl, refl))

pub returns-in-Err-get_template-clause-rendered : goal.returns-in-Err-get_template-clause-rendered
returns-in-Err-get_template-clause-rendered g c =
    let missing = c.in-Err-get_template.ensures.missing in
    inr (c.in-Ok.context, (c.in-Ok.ensures.faultless, c.in-Ok.ensures.context), inl (ap (λ (kinds : List ErrorKind). Template kinds) missing.0, missing.1, (refl, refl)))

pub returns-clause-rendered : goal.returns-clause-rendered
returns-clause-rendered g c =
    let t = c.in-Ok-get_template in
    let s = c.args.self.now in
    let rendered = subst (λ place. Rendered (brought_of program_answers place) (registry_of place) (standing_of (compiled_in t.template.compiled))
    c.in-Ok.context s.ids c.render.result (g.S.Sink.taken c.args.sink.now) (g.S.Sink.taken c.render.new.sink)
    (g.S.Sink.failures c.args.sink.now) (g.S.Sink.failures c.render.new.sink)) t.ensures.here c.render.ensures.rendered in
    renders_found s c.args.name.now (given_in c.args.context) c.in-Ok.context c.render.result _ _ _ _
    (c.in-Ok.ensures.faultless, c.in-Ok.ensures.context) (compiled_in t.template.compiled) t.ensures.named t.ensures.found
    (subst (λ name. IsEscapeOf (source_of t.template).escapes name (compiled_in t.template.compiled).escape) t.ensures.named c.render.ensures.rule)
    rendered c.render.ensures.plain
