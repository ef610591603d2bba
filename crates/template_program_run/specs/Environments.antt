-- The environment that a request is answered in.
use Rattle.std.specs.Prelude.{◌≡◌, ℕ, List, Option, None, Some, min}
use Rattle.template_values_errors.specs.declared.modes.AutoEscape.TheVariants as fixed
use Rattle.template_compiler_syntax.specs.Syntax.{Syntax}
use Rattle.template_machine_surroundings.specs.declared.escape.EscapeRule.{EscapeRule}
use Rattle.template_machine_surroundings.specs.declared.escape.EscapeRule.TheVariants.{ByName, Never, Fixed}
use Rattle.template_machine_environment_settings.specs.Globals.{own_globals}
use Rattle.template_machine_environment_settings.specs.Standing.{Settings, greatest_limit, settings_of, source_at}
use Rattle.template_machine_environment_settings.specs.Registry.{Registry}
use Rattle.template_program_run.specs.History.{source_standing}
use Rattle.template_program_run.specs.Served.{Served}
use Rattle.template_program_run.specs.declared.extension.OneEscape.{OneEscape}
use Rattle.template_program_run.specs.declared.request.Request.{Request}

-- it is set to the syntax and to what the request asks for, and its globals are its own functions, under its number
pub record IsSetFor (syntax : Syntax) (request : Request) (id : ℕ) (s : Settings) : Type 0 where
  pub globals : s.globals ≡ own_globals id
  pub syntax_set : s.syntax ≡ syntax
  pub escapes : s.escapes ≡ ByName
  pub fuel : s.fuel ≡ request.fuel
  pub limit : s.limit ≡ min request.limit greatest_limit
  pub undefined : s.undefined ≡ request.undefined

-- what gives escapes in place of its own rule, which goes by name
abbrev pub callback_under : EscapeRule → Option OneEscape
callback_under ByName = None
callback_under Never = Some (record { escape = fixed.None })
callback_under (Fixed escape) = Some (record { escape = escape })

-- the additions stand in it, which has the number
pub record IsMade (served : Served) (request : Request) (additions : List (List ℕ × List ℕ)) (id : ℕ) (e : Registry) : Type 0 where
  pub sources : (name : List ℕ) → source_at e name ≡ source_standing served additions name
  pub settings : IsSetFor served.syntax request id (settings_of e)
