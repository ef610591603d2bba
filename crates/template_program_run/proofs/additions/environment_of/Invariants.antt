use Rattle.std.proofs.Common.{◌≡◌, ℕ, List, take}
use Rattle.template_machine_environment_settings.specs.Reading.{brought_of, extras_of, registry_of}
use Rattle.template_machine_environment_settings.specs.Standing.{settings_of, source_at}
use Rattle.template_program_parts.specs.Context.{text_pairs}
use Rattle.template_program_run.specs.Additions.{AllAreAccepted}
use Rattle.template_program_run.specs.Brought.{brought_if, program_answers}
use Rattle.template_program_run.specs.Environments.{IsSetFor, callback_under}
use Rattle.template_program_run.specs.History.{source_standing}
use Rattle.template_program_run.specs.Served.{served_under, syntax_under}
use Rattle.template_program_run.proofs.additions.environment_of.Given as goal

-- the additions so far are accepted, and they stand, under the settings of the request, with what the options bring
abbrev pub invariant-loop-name : goal.invariant-loop-name
invariant-loop-name l = record {
  accepted : AllAreAccepted (served_under l.fn.options) (text_pairs (take l.name-index l.templates));
  stands : (q : List ℕ) → source_at (registry_of l.environment) q
      ≡ source_standing (served_under l.fn.options) (text_pairs (take l.name-index l.templates)) q;
  settings : IsSetFor (syntax_under l.fn.options) l.request l.fn.ids (settings_of (registry_of l.environment));
  brought : brought_of program_answers l.environment ≡ brought_if l.fn.options.builtins;
  rule : (extras_of l.environment).rule ≡ callback_under l.fn.options.escapes;
}
