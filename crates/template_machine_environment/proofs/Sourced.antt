-- From the render of a template of its own to that of its source.
use Rattle.std.proofs.Common.{◌≡◌, ◌∙◌, ℕ, List, Option, Result, ap, subst}
use Rattle.template_values_errors.specs.declared.ErrorKind.{ErrorKind}
use Rattle.template_values_errors.specs.declared.modes.AutoEscape.{AutoEscape}
use Rattle.template_values_model.specs.Val.{Val}
use Rattle.template_machine_surroundings.specs.Rule.{IsEscapeOf}
use Rattle.template_machine_surroundings.proofs.OneRule.{one_escape}
use Rattle.template_machine_meaning.specs.Isolation.{IsolatesNames}
use Rattle.template_compiled.specs.Compiled.{Compiled}
use Rattle.template_compiled.specs.Sources.{Source, read_by, tree_in}
use Rattle.template_compiled.specs.declared.config.TemplateConfig.{TemplateConfig}
use Rattle.template_machine_environment.specs.Extras.{Brought}
use Rattle.template_machine_environment.specs.Isolated.{IsIsolatedSource}
use Rattle.template_machine_environment.specs.Reading.{rule_for}
use Rattle.template_machine_environment.specs.Renderings.{RendersText}
use Rattle.template_machine_environment.specs.Standing.{setting_of}
use Rattle.template_machine_environment.specs.declared.registry.Registry.{Registry}
use Rattle.template_machine_environment.proofs.Importing.{source_imports, standing_import}

-- the name and the source decide what is compiled
same_compiled : (c : Compiled) (name : List ℕ) (source : Source) (escape : AutoEscape) → c.name ≡ name → c.source ≡ source
    → IsEscapeOf source.escapes name c.escape → IsEscapeOf source.escapes name escape → c ≡ record { name = name; source = source; escape = escape }
same_compiled c name source escape named read rule other = λ i. record {
  name = named i;
  source = read i;
  escape = one_escape source.escapes name c.escape escape rule other i;
}

pub renders_source : {X : Type 0} (there k : Brought) (here e : Registry) (c : Compiled) (name : List ℕ) (source : Source) (context : Val) (id next : ℕ)
    (text : X → List ℕ) (result : Result X (List ErrorKind)) → there ≡ k → here ≡ e → c.name ≡ name → c.source ≡ source
    → IsEscapeOf source.escapes name c.escape → RendersText there here c context id next text result
    → (escape : AutoEscape) → IsEscapeOf source.escapes name escape
    → RendersText k e (record { name = name; source = source; escape = escape }) context id next text result
renders_source there k here e c name source context id next text result brought is named read rule renders = λ escape other.
    subst (λ (b : Brought). RendersText b e (record { name = name; source = source; escape = escape }) context id next text result) brought
    (subst (λ (x : Registry). RendersText there x (record { name = name; source = source; escape = escape }) context id next text result) is
    (subst (λ (x : Compiled). RendersText there here x context id next text result) (same_compiled c name source escape named read rule other) renders))

-- what was compiled under a configuration, and then under the rule for its name
abbrev pub ruled : {R : Type 0} → (R → List ℕ → AutoEscape) → Option R → TemplateConfig → List ℕ → List ℕ → Source
ruled answer callback config name text =
    record { text = text; syntax = config.syntax_config; escapes = rule_for answer config.default_auto_escape callback name }

pub read_so : {R : Type 0} (answer : R → List ℕ → AutoEscape) (callback : Option R) (config : TemplateConfig) (c : Compiled) (source : Source)
    (name text : List ℕ) → c.name ≡ name → c.source ≡ read_by config text
    → source.text ≡ c.source.text → source.syntax ≡ c.source.syntax → source.escapes ≡ rule_for answer c.source.escapes callback c.name
    → source ≡ ruled answer callback config name text
read_so answer callback config c source name text named made texts syntaxes escapes =
    let of_text = texts ∙ ap (λ (s : Source). s.text) made in
    let of_syntax = syntaxes ∙ ap (λ (s : Source). s.syntax) made in
    let of_rule = escapes ∙ ap (λ (s : Source). rule_for answer s.escapes callback c.name) made
    ∙ ap (λ n. rule_for answer config.default_auto_escape callback n) named in
    λ i. record { text = of_text i; syntax = of_syntax i; escapes = of_rule i }

-- isolation of a render, as that of its source
pub isolates_source : IsolatesNames → (k : Brought) (e : Registry) (source : Source) (c : Val) → IsIsolatedSource k e source c
isolates_source isolates k e source c asks d agree = λ name id escape n fuel.
    isolates (setting_of k e) asks (standing_import k e) id (record { name = name; tree = tree_in source; escape = escape }) (source_imports source) c d agree n fuel
