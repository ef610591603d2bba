use Rattle.std.proofs.Common.{rules, Err, refl}
use Rattle.std.specs.BTreeSet.{IsOrdered}
use Rattle.std.specs.String.{string_cmp}
use Rattle.template_machine_environment_settings.specs.Compiled.{standing_of}
use Rattle.template_machine_environment_settings.specs.Reading.{brought_of, registry_of}
use Rattle.template_machine_environment_settings.specs.Views.{compiled_in}
use Rattle.template_program_run.specs.Brought.{program_answers}
use Rattle.template_program_run.proofs.NeededNames.{has_names}
use Rattle.template_program_run.proofs.running.tell_names.Goals as goal

pub returns-in-Ok-write_names-clause-told : goal.returns-in-Ok-write_names-clause-told
returns-in-Ok-write_names-clause-told g c =
    let ordered : IsOrdered string_cmp c.in-Ok.names = search rules in
    let k = brought_of program_answers c.args.environment.now in
    let told = c.in-Ok-write_names.ensures in (
      c.in-Ok.names,
      has_names k (registry_of c.args.environment.now) (standing_of (compiled_in c.args.template.now.compiled)) c.in-Ok.names ordered
          (c.in-Ok.ensures.listed, c.in-Ok.ensures.isolated c.requires),
      told.written,
      told.failures,
    )

pub returns-clause-told : goal.returns-clause-told
returns-clause-told g c =
    let ordered : IsOrdered string_cmp c.in-Ok.names = search rules in
    let k = brought_of program_answers c.args.environment.now in
    let told = c.in-Err-write_names.ensures in (
      c.in-Ok.names,
      has_names k (registry_of c.args.environment.now) (standing_of (compiled_in c.args.template.now.compiled)) c.in-Ok.names ordered
          (c.in-Ok.ensures.listed, c.in-Ok.ensures.isolated c.requires),
      told.want,
      told.beginning,
      (Err c.in-Err-write_names.error, refl, told.failures),
    )
