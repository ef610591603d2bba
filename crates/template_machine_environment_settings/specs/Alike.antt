-- What renders see of an environment: the sources that stand in it, what it is set to, and what its user brought.
use Rattle.std.specs.Prelude.{◌≡◌, ℕ, List}
use Rattle.template_values_model.specs.Val.{Val}
use Rattle.template_machine_surroundings.specs.Rule.{IsEscapeOf}
use Rattle.template_machine_environment.specs.Compiled.{Compiled}
use Rattle.template_machine_environment.specs.Extras.{Brought}
use Rattle.template_machine_environment.specs.Renderings.{rendering}
use Rattle.template_machine_environment.specs.Standing.{setting_of, settings_of, source_at}
use Rattle.template_machine_environment.specs.declared.registry.Registry.{Registry}

-- The same source stands under each name, and renders know the same globals, are answered the same where they ask what the users
-- brought, keep to the same limit and let undefined values do the same. Functions are known by the number of their environment, and
-- can be called there: so the two have one number.
pub record AreAlike (brought others : Brought) (e other : Registry) : Type 0 where
  pub sources : (name : List ℕ) → source_at e name ≡ source_at other name
  pub globals : (settings_of e).globals ≡ (settings_of other).globals
  pub users : brought ≡ others
  pub limit : (settings_of e).limit ≡ (settings_of other).limit
  pub undefined : (settings_of e).undefined ≡ (settings_of other).undefined

-- two templates of one name and one source, each with the escape of its name
pub record AreOneTemplate (c d : Compiled) : Type 0 where
  pub name : c.name ≡ d.name
  pub source : c.source ≡ d.source
  pub escape : IsEscapeOf c.source.escapes c.name c.escape
  pub other_escape : IsEscapeOf d.source.escapes d.name d.escape

-- They render to the same in the two environments, in states of one number, under every bound and over every context.
abbrev pub RenderTheSame : Brought → Brought → Registry → Registry → Type 0
RenderTheSame brought others e other = (c d : Compiled) → AreOneTemplate c d
    → (id n : ℕ) (context : Val) → rendering brought e id c n context ≡ rendering others other id d n context

-- Such environments give their renders one setting.
abbrev pub AlikeHaveOneSetting : Type 0
AlikeHaveOneSetting = (brought others : Brought) (e other : Registry) → AreAlike brought others e other
    → setting_of brought e ≡ setting_of others other

abbrev pub AlikeRenderTheSame : Type 0
AlikeRenderTheSame = (brought others : Brought) (e other : Registry) → AreAlike brought others e other
    → RenderTheSame brought others e other
