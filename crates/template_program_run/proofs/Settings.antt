-- The settings of a request.
use Rattle.std.proofs.Common.{◌≡◌, ◌∙◌, ℕ, Option, min, ap, unwrap_or}
use Rattle.template_compiler_syntax.specs.Syntax.{Syntax, default_syntax}
use Rattle.template_machine_surroundings.specs.declared.escape.EscapeRule.TheVariants.{ByName}
use Rattle.template_machine_environment_settings.specs.Globals.{own_globals}
use Rattle.template_machine_environment_settings.specs.Standing.{Settings, greatest_limit, new_settings}
use Rattle.template_program_run.specs.Environments.{IsSetFor}
use Rattle.template_program_run.specs.declared.request.Request.{Request}

pub has_settings : (request : Request) (id : ℕ) (first set : Settings)
    → first ≡ new_settings (own_globals id) default_syntax ByName
    → set ≡ record first { fuel = request.fuel; limit = min request.limit greatest_limit; undefined = request.undefined } → IsSetFor default_syntax request id set
has_settings request id first set new bounds = record {
  globals = ap (λ (s : Settings). s.globals) bounds ∙ ap (λ (s : Settings). s.globals) new;
  syntax_set = ap (λ (s : Settings). s.syntax) bounds ∙ ap (λ (s : Settings). s.syntax) new;
  escapes = ap (λ (s : Settings). s.escapes) bounds ∙ ap (λ (s : Settings). s.escapes) new;
  fuel = ap (λ (s : Settings). s.fuel) bounds;
  limit = ap (λ (s : Settings). s.limit) bounds;
  undefined = ap (λ (s : Settings). s.undefined) bounds;
}

-- the same once a syntax is set, where one is given
pub syntax_is_set : (given : Option Syntax) (request : Request) (id : ℕ) (old new : Settings)
    → new ≡ record old { syntax = unwrap_or given old.syntax } → IsSetFor default_syntax request id old
    → IsSetFor (unwrap_or given default_syntax) request id new
syntax_is_set given request id old new set were = record {
  globals = ap (λ (s : Settings). s.globals) set ∙ were.globals;
  syntax_set = ap (λ (s : Settings). s.syntax) set ∙ ap (λ (x : Syntax). unwrap_or given x) were.syntax_set;
  escapes = ap (λ (s : Settings). s.escapes) set ∙ were.escapes;
  fuel = ap (λ (s : Settings). s.fuel) set ∙ were.fuel;
  limit = ap (λ (s : Settings). s.limit) set ∙ were.limit;
  undefined = ap (λ (s : Settings). s.undefined) set ∙ were.undefined;
}
