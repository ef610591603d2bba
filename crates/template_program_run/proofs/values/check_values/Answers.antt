use Rattle.std.proofs.Common.{◌≢◌, All, List, None, ℕ, subst}
use Rattle.std.proofs.lemmas.List.{take_all}
use Rattle.std.proofs.lemmas.List.Elements.{All-map}
use Rattle.template_values_json.specs.Contexts.{tree_of}
use Rattle.template_program_words.specs.declared.definitions.Definition.{Definition}
use Rattle.template_program_run.proofs.values.check_values.Goals as goal

pub returns-clause-json : goal.returns-clause-json
returns-clause-json c = All-map (λ (text : List ℕ). tree_of text ≢ None) (λ (value : Definition). value.text.now) c.args.values.now
    (subst (λ (values : List Definition). All (λ value. tree_of value.text.now ≢ None) values)
    (take_all c.loop-value.value-index c.args.values.now c.loop-value-test.false) c.loop-value.invariant)
