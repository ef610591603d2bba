use Rattle.std.proofs.Common.{◌∙◌, ap}
use Rattle.template_machine_environment_settings.specs.Reading.{brought_of}
use Rattle.template_program_run.specs.Brought.{program_answers}
use Rattle.template_program_run.proofs.Bringing.{builtins_added, nothing_added}
use Rattle.template_program_run.proofs.additions.bring.Goals as goal
use Rattle.template_program_run.proofs.additions.bring.Goals.{then-builtins+in_ok-install, else-builtins}

pub returns-clause-brought : goal.returns-clause-brought
returns-clause-brought c = elim c.if-builtins.branch [
  | then-builtins+in_ok-install w ↦
      ap (λ e. brought_of program_answers e) w.environment-is
      ∙ builtins_added c.args.builtins w.if-builtins.true _ _ c.requires w.in_ok-install.ensures.installed
  | else-builtins w ↦ ap (λ e. brought_of program_answers e) w.environment-is ∙ nothing_added c.args.builtins w.if-builtins.false _ c.requires
]
