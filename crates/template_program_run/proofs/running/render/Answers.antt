use Rattle.std.proofs.Common.{refl, Ok, Err, ap}
use Rattle.template_machine_environment_settings.specs.Compiled.{standing_of}
use Rattle.template_machine_environment_settings.specs.Reading.{brought_of, registry_of}
use Rattle.template_machine_environment_settings.specs.Views.{compiled_in, environment_of}
use Rattle.template_program_run.specs.Brought.{program_answers}
use Rattle.template_program_run.proofs.Rendering.{rendered_done, rendered_failed}
use Rattle.template_program_run.proofs.running.render.Goals as goal

pub returns-in-Ok-clause-rendered : goal.returns-in-Ok-clause-rendered
returns-in-Ok-clause-rendered g c =
    let t = c.args.template.now in
    let k = brought_of program_answers (environment_of t) in (
      λ last. let never = (c.in-Ok.ensures.exhausted last).0 in cc,
      λ more. (
        Ok tt,
        tt,
        rendered_done _ k (registry_of (environment_of t)) c.args.ids.now (standing_of (compiled_in t.compiled)) c.args.context _ _ _ _
            (c.every_render_ends.ensures c.args.ids.now c.args.context, c.in-Ok.ensures.renders more),
      ),
    )

pub returns-in-Err-clause-rendered : goal.returns-in-Err-clause-rendered
returns-in-Err-clause-rendered g c =
    let t = c.args.template.now in
    let k = brought_of program_answers (environment_of t) in (
      λ last.
          let out = c.in-Err.ensures.exhausted last in
          let kinds = out.0 in
          (cc, (ap (λ s. g.S.Sink.taken s) out.1, ap (λ s. g.S.Sink.failures s) out.1)),
      λ more. (
        Err c.in-Err.error,
        refl,
        rendered_failed _ _ k (registry_of (environment_of t)) c.args.ids.now (standing_of (compiled_in t.compiled)) c.args.context _ _ _ _
            (c.every_render_ends.ensures c.args.ids.now c.args.context, c.in-Err.ensures.renders more),
      ),
    )
