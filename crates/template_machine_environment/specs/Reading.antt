-- How an environment reads the templates that it is given, and what its user brought.
use Rattle.std.specs.Prelude.{◌≡◌, ℕ, List, Option, None, Some}
use Rattle.std.specs.BTreeMap.{get_by_text}
use Rattle.template_values_errors.specs.declared.modes.AutoEscape.{AutoEscape}
use Rattle.template_callables.specs.Callables.{Callables}
use Rattle.template_machine_meaning.specs.Meaning.{Setting}
use Rattle.template_machine_surroundings.specs.declared.escape.EscapeRule.{EscapeRule}
use Rattle.template_machine_surroundings.specs.declared.escape.EscapeRule.TheVariants.{Fixed}
use Rattle.template_compiled.specs.Sources.{Source}
use Rattle.template_machine_environment.specs.Extras.{Extras, UserAnswers, Brought, callables_by, brought_by}
use Rattle.template_machine_environment.specs.Standing.{setting_of, settings_of, source_at}
use Rattle.template_machine_environment.specs.declared.environment.Environment.{Environment}
use Rattle.template_machine_environment.specs.declared.extensions.Extensions.{Extensions}
use Rattle.template_machine_environment.specs.declared.registry.Registry.{Registry}

-- the rule for a name, where a rule's own answers go before
abbrev pub rule_for : {R : Type 0} → (R → List ℕ → AutoEscape) → EscapeRule → Option R → List ℕ → EscapeRule
rule_for answer given None name = given
rule_for answer given (Some rule) name = Fixed (answer rule name)

module _ {E C M F J R : Type 0} where
  -- what its renders see of it, beside what its user brought
  abbrev pub registry_of : Environment E C M F J R → Registry
  registry_of e = e.registry

  -- what its user brought
  abbrev pub extras_in : Extensions E C M F J R → Extras C M F J R
  extras_in x = record {
    filters = λ name. get_by_text x.filters name;
    tests = λ name. get_by_text x.tests name;
    functions = x.functions.items;
    method = x.method;
    formatter = x.formatter;
    join = x.join;
    rule = x.rule;
  }

  abbrev pub extras_of : Environment E C M F J R → Extras C M F J R
  extras_of e = extras_in e.extensions

  -- what its renders are answered where they ask that, of which the first says what is answered by its types; and of that, what
  -- they call
  abbrev pub brought_of : UserAnswers C M F J → Environment E C M F J R → Brought
  brought_of says e = brought_by says (extras_of e)

  abbrev pub callables_of : UserAnswers C M F J → Environment E C M F J R → Callables
  callables_of says e = callables_by says (extras_of e)

  -- the setting that its renders have
  abbrev pub setting_in : UserAnswers C M F J → Environment E C M F J R → Setting
  setting_in says e = setting_of (brought_of says e) (registry_of e)

  -- the text of a template of a name, under the syntax and the rule of escapes in force
  abbrev pub read_under : (R → List ℕ → AutoEscape) → Environment E C M F J R → List ℕ → List ℕ → Source
  read_under answer e name text = record {
    text = text;
    syntax = e.registry.config.syntax_config;
    escapes = rule_for answer e.registry.config.default_auto_escape e.extensions.rule name;
  }

-- nothing that a caller sees has changed
pub record IsUnchanged {E C M F J R : Type 0} (old new : Environment E C M F J R) : Type 0 where
  pub sources : (name : List ℕ) → source_at (registry_of new) name ≡ source_at (registry_of old) name
  pub settings : settings_of (registry_of new) ≡ settings_of (registry_of old)
  pub extras : extras_of new ≡ extras_of old
