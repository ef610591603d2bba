-- What stands in an environment, and what it means.
use Rattle.std.specs.Prelude.{ℕ, false, List, [], map, Option, None, codes}
use Rattle.std.specs.Option.{option_map}
use Rattle.template_values_errors.specs.declared.modes.UndefinedBehavior.{UndefinedBehavior}
use Rattle.template_values_errors.specs.declared.modes.UndefinedBehavior.TheVariants.{Lenient}
use Rattle.template_values_model.specs.Val.{Val}
use Rattle.template_compiler_syntax.specs.Syntax.{Syntax}
use Rattle.template_machine_surroundings.specs.declared.escape.EscapeRule.{EscapeRule}
use Rattle.template_machine_meaning.specs.Meaning.{Setting}
use Rattle.template_machine_meaning.specs.World.{Globals, local_at}
use Rattle.template_machine_renders.specs.Programs as units
use Rattle.template_compiled.specs.Compiled.{Compiled, code_for, standing_of}
use Rattle.template_compiled.specs.Sources.{Source, tree_in}
pub use Rattle.template_compiled.specs.Standing.{compiled_at}
use Rattle.template_compiled.specs.Standing.{all_in}
use Rattle.template_compiled.specs.Streams.{streams_of}
use Rattle.template_machine_environment.specs.Extras.{Brought}
use Rattle.template_machine_environment.specs.declared.registry.Registry.{Registry}

-- the source that stands under a name
abbrev pub source_at : Registry → List ℕ → Option Source
source_at e name = option_map (λ c. c.source) (compiled_at e.templates name)

-- the names of all that stand, in order
abbrev pub names_in : Registry → List (List ℕ)
names_in e = map (λ (c : Compiled). c.name) (all_in e.templates)

-- the value that stands under a name, under the frames of each run
abbrev pub global_at : Registry → List ℕ → Option Val
global_at e name = local_at name e.globals.named

-- the name of a template from a source without a name
abbrev pub unnamed : List ℕ
unnamed = codes "<string>"

-- the deepest that a render may be
abbrev pub greatest_limit : ℕ
greatest_limit = 500

-- what an environment is set to beside its templates and what its user brought: what it gives to each run, its number among that;
-- how templates are read; and what renders keep to
pub record Settings : Type 0 where
  pub globals : Globals
  pub syntax : Syntax
  pub escapes : EscapeRule
  pub fuel : Option ℕ
  pub limit : ℕ
  pub undefined : UndefinedBehavior

-- no names, and no functions that an environment has by itself
abbrev pub no_globals : ℕ → Globals
no_globals id = record { environment = id; has_own = false; named = [] }

-- those of a new one: without fuel, with the greatest limit, where undefined values are lenient
abbrev pub new_settings : Globals → Syntax → EscapeRule → Settings
new_settings globals syntax escapes = record {
  globals = globals;
  syntax = syntax;
  escapes = escapes;
  fuel = None;
  limit = greatest_limit;
  undefined = Lenient;
}

abbrev pub settings_of : Registry → Settings
settings_of e = record {
  globals = e.globals;
  syntax = e.config.syntax_config;
  escapes = e.config.default_auto_escape;
  fuel = e.fuel;
  limit = e.recursion_limit;
  undefined = e.undefined_behavior;
}

-- the setting that its renders have, with what a user brought
abbrev pub setting_of : Brought → Registry → Setting
setting_of brought e = record {
  templates = λ name. option_map standing_of (compiled_at e.templates name);
  joins = brought.joins;
  globals = e.globals;
  callables = brought.callables;
  limit = e.recursion_limit;
  undefined = e.undefined_behavior;
}

-- the code of what stands, as a machine takes it
abbrev pub unit_of : Compiled → units.Standing
unit_of c = record { name = c.name; code = code_for c; escape = c.escape; blocks = streams_of (tree_in c.source) }

abbrev pub units_of : Registry → List ℕ → Option units.Standing
units_of e name = option_map unit_of (compiled_at e.templates name)
