-- Histories of environments that agree on each name.
use Rattle.std.specs.Prelude.{◌≡◌, ℕ, List}
use Rattle.template_machine_environment.specs.Sources.{Source}
use Rattle.template_machine_environment_histories.specs.Histories.{Change, LeadsThrough}
use Rattle.template_machine_environment_histories.specs.Laws.{AgreeOn}
use Rattle.template_machine_environment.specs.Extras.{UserAnswers}
use Rattle.template_machine_environment.specs.Reading.{brought_of, registry_of, setting_in}
use Rattle.template_machine_environment.specs.Standing.{settings_of, source_at}
use Rattle.template_machine_environment.specs.declared.environment.Environment.{Environment}
use Rattle.template_machine_environment_settings.specs.Alike.{RenderTheSame}

module _ {E C M F J R : Type 0} where
  -- Changes lead from the one environment to the other: each is a call's, as its contract tells.
  abbrev pub ChangesLead : List (Change Source) → Environment E C M F J R → Environment E C M F J R → Type 0
  ChangesLead changes old new = LeadsThrough (λ e. source_at (registry_of e)) changes old new

-- Two histories, from one environment to another each, that agree on each name: the last change that touches it says the same in
-- both; or none touches it in either, and the same stood there before. Behind them both environments have the same globals, are
-- answered the same where they ask what their users brought, keep to the same limit and let undefined values do the same.
pub record AgreeingHistories {E C M F J R : Type 0} (says : UserAnswers C M F J) (old new other_old other_new : Environment E C M F J R)
    : Type 0 where
  pub changes : List (Change Source)
  pub others : List (Change Source)
  pub lead : ChangesLead changes old new
  pub others_lead : ChangesLead others other_old other_new
  pub agree : (name : List ℕ)
      → AgreeOn name changes others (source_at (registry_of old) name) (source_at (registry_of other_old) name)
  pub globals : (settings_of (registry_of new)).globals ≡ (settings_of (registry_of other_new)).globals
  pub users : brought_of says new ≡ brought_of says other_new
  pub limit : (settings_of (registry_of new)).limit ≡ (settings_of (registry_of other_new)).limit
  pub undefined : (settings_of (registry_of new)).undefined ≡ (settings_of (registry_of other_new)).undefined

module _ (E C M F J R : Type 0) (says : UserAnswers C M F J) where
  -- They come to one setting,
  abbrev pub AgreeingComeToOneSetting : Type 0
  AgreeingComeToOneSetting = (old new other_old other_new : Environment E C M F J R) → AgreeingHistories says old new other_old other_new
      → setting_in says new ≡ setting_in says other_new

  -- so each template renders to the same behind them.
  abbrev pub AgreeingRenderTheSame : Type 0
  AgreeingRenderTheSame = (old new other_old other_new : Environment E C M F J R) → AgreeingHistories says old new other_old other_new
      → RenderTheSame (brought_of says new) (brought_of says other_new) (registry_of new) (registry_of other_new)
