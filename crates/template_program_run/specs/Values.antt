-- Why values that are given as JSON are refused.
use Rattle.std.specs.Prelude.{◌≡◌, ◌≢◌, ℕ, List, [], map, All, Contains, None}
use Rattle.template_values_json.specs.Contexts.{tree_of}
use Rattle.template_program_words.specs.declared.faults.WordsFault.{WordsFault}
use Rattle.template_program_words.specs.declared.faults.WordsFault.TheVariants.{Memory, Help, Version, Usage, Definition}
use Rattle.template_program_words.specs.declared.words.Words.{Words}
use Rattle.template_program_words.specs.declared.words.Words.TheVariants as asks

-- the texts that the words give as JSON
abbrev pub value_texts : Words → List (List ℕ)
value_texts (asks.Render read) = map (λ value. value.text.now) read.values.items
value_texts (asks.Names read) = []
value_texts (asks.Check read) = []

-- each is JSON
abbrev pub AreJsonTexts : List (List ℕ) → Type 0
AreJsonTexts texts = All (λ text. tree_of text ≢ None) texts

-- one is no JSON, or memory is wanting
abbrev pub RefusesValues : List (List ℕ) → WordsFault → Type 0
RefusesValues texts Memory = Unit {0}
RefusesValues texts (Help text) = ⊥
RefusesValues texts (Version text) = ⊥
RefusesValues texts (Usage text) = ⊥
RefusesValues texts Definition = (text : List ℕ) × Contains texts text × (tree_of text ≡ None)
