-- What contracts see of a template to be rendered, and of what a render leaves.
use Rattle.std.specs.Prelude.{ℕ, List, Option, string_bytes}
use Rattle.template_values_errors.specs.declared.modes.AutoEscape.{AutoEscape}
use Rattle.template_values_model.specs.Val.{Val}
use Rattle.template_compiler_process.specs.Trace.{Run}
use Rattle.template_machine_meaning.specs.Keys.{Head}
use Rattle.template_machine_meaning.specs.Meaning.{head_of}
use Rattle.template_machine_meaning.specs.World.{Globals, World}
use Rattle.template_compiled.specs.Compiled.{Compiled, standing_of}
use Rattle.template_compiled.specs.Sources.{Source}
use Rattle.template_machine_environment.specs.Extras.{UserAnswers}
use Rattle.template_machine_environment.specs.Renderings.{rendering_in}
use Rattle.template_machine_environment.specs.States.{fuel_left_in, fuel_set_in, id_in, world_in}
use Rattle.template_machine_environment.specs.declared.environment.Environment.{Environment}
use Rattle.template_machine_environment.specs.declared.state.State.{State}
use Rattle.template_machine_environment.specs.declared.template.Captured.{Captured}
use Rattle.template_machine_environment.specs.declared.template.Template.{Template}
use Rattle.template_machine_environment.specs.declared.template.TemplateCode.{TemplateCode}
use Rattle.template_machine_environment.specs.declared.template.TemplateCode.TheVariants.{Borrowed, Owned}

-- what was compiled
abbrev pub compiled_in : TemplateCode → Compiled
compiled_in (Borrowed c) = c.now
compiled_in (Owned c) = c

module _ {E C M F J R : Type 0} where
  -- the environment that it is a template of
  abbrev pub environment_of : Template E C M F J R → Environment E C M F J R
  environment_of t = t.environment.now

  abbrev pub compiled_of : Template E C M F J R → Compiled
  compiled_of t = compiled_in t.compiled

  abbrev pub name_of : Template E C M F J R → List ℕ
  name_of t = (compiled_in t.compiled).name

  abbrev pub source_of : Template E C M F J R → Source
  source_of t = (compiled_in t.compiled).source

  -- the escape that it runs under
  abbrev pub escape_of : Template E C M F J R → AutoEscape
  escape_of t = (compiled_in t.compiled).escape

  -- that, and the names of its blocks
  abbrev pub head_in : Template E C M F J R → Head
  head_in t = head_of (standing_of (compiled_in t.compiled))

  -- the fuel that each of its renders is given
  abbrev pub fuel_of : Template E C M F J R → Option ℕ
  fuel_of t = t.environment.now.registry.fuel

  -- what its environment gives to each of its renders
  abbrev pub globals_of : Template E C M F J R → Globals
  globals_of t = t.environment.now.registry.globals

  -- what its render over a context means, in the state of a number, under a bound; the first says what is answered where
  -- it asks what a user brought
  abbrev pub render_of : UserAnswers C M F J → Template E C M F J R → ℕ → ℕ → Val → Run World
  render_of says t id n context = rendering_in says (environment_of t) id (compiled_in t.compiled) n context

  -- what a render left: its text, and its state with the world, the fuel that was set and what is left of it, and its number
  abbrev pub output_of : Captured E C M F J R → List ℕ
  output_of captured = string_bytes captured.output

  abbrev pub state_of : Captured E C M F J R → State E C M F J R
  state_of captured = captured.state

  abbrev pub world_of : Captured E C M F J R → World
  world_of captured = world_in captured.state

  abbrev pub fuel_set : Captured E C M F J R → Option ℕ
  fuel_set captured = fuel_set_in captured.state

  abbrev pub fuel_left : Captured E C M F J R → Option ℕ
  fuel_left captured = fuel_left_in captured.state

  abbrev pub id_of : Captured E C M F J R → ℕ
  id_of captured = id_in captured.state
