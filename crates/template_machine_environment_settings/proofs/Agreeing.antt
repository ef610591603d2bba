-- What agreeing histories come to.
use Rattle.template_machine_environment.specs.Sources.{Source}
use Rattle.template_machine_environment_histories.proofs.Deciding.{agreeing_come_to_the_same}
use Rattle.template_machine_environment.specs.Extras.{UserAnswers}
use Rattle.template_machine_environment.specs.Reading.{brought_of, registry_of}
use Rattle.template_machine_environment.specs.Standing.{source_at}
use Rattle.template_machine_environment.specs.declared.environment.Environment.{Environment}
use Rattle.template_machine_environment_settings.specs.Alike.{AreAlike}
use Rattle.template_machine_environment_settings.specs.Histories.{AgreeingComeToOneSetting, AgreeingHistories, AgreeingRenderTheSame}
use Rattle.template_machine_environment_settings.proofs.Settings.{one_setting, same_renders}

module _ (E C M F J R : Type 0) (says : UserAnswers C M F J) where
  come_to_the_same : (old new other_old other_new : Environment E C M F J R) → AgreeingHistories says old new other_old other_new
      → AreAlike (brought_of says new) (brought_of says other_new) (registry_of new) (registry_of other_new)
  come_to_the_same old new other_old other_new h = record {
    sources = agreeing_come_to_the_same (Environment E C M F J R) Source (λ e. source_at (registry_of e)) h.changes h.others old new other_old other_new
        h.lead h.others_lead h.agree;
    globals = h.globals;
    users = h.users;
    limit = h.limit;
    undefined = h.undefined;
  }

  pub agreeing_setting : AgreeingComeToOneSetting E C M F J R says
  agreeing_setting old new other_old other_new h =
      one_setting (brought_of says new) (brought_of says other_new) (registry_of new) (registry_of other_new)
      (come_to_the_same old new other_old other_new h)

  pub agreeing_renders : AgreeingRenderTheSame E C M F J R says
  agreeing_renders old new other_old other_new h =
      same_renders (brought_of says new) (brought_of says other_new) (registry_of new) (registry_of other_new)
      (come_to_the_same old new other_old other_new h)
