-- Definitions, one after another.
use Rattle.std.proofs.Common.{◌≡◌, ◌∙◌, ◌<◌, ◌++◌, ℕ, zero, suc, List, [], ◌∷◌, Bor, Contains, ap, ap₂, arith, length, map, slice_index_or, sym}
use Rattle.std.proofs.lemmas.List.{get_or-map, map-append}
use Rattle.std.proofs.lemmas.List.Elements.{All-append}
use Rattle.std.proofs.Math.ListN.{length-map}
use Rattle.template_program_words.specs.Definitions.{equals_sign, definition_name, definition_text}
use Rattle.template_program_words.specs.Reading.{Defines, parts_in, parts_of}
use Rattle.template_program_words.specs.Refusals.{LacksSign}
use Rattle.template_program_words.specs.declared.definitions.Definition.{Definition}

All-one : (P : List ℕ → Type 0) (x : List ℕ) → P x → (k : ℕ) (d : List ℕ) → k < length (x ∷ []) → P (slice_index_or (x ∷ []) k d)
All-one P x p zero d lt = p
All-one P x p (suc k) d lt = absurd (omega arith)

-- one more definition
pub Defines-more : (words : List (List ℕ)) (definitions : List Definition) (text : List ℕ) (definition : Definition)
    → Defines words definitions → Contains text equals_sign → definition.name.now ≡ definition_name text → definition.text.now ≡ definition_text text
    → Defines (words ++ text ∷ []) (definitions ++ definition ∷ [])
Defines-more words definitions text definition before sign name rest =
    let pair : parts_of definition ≡ parts_in text = ap₂ (λ a b. (a, b)) name rest in
    record {
      signed = All-append (λ t. Contains t equals_sign) words (text ∷ []) before.signed
          (All-one (λ t. Contains t equals_sign) text sign);
      parts = map-append parts_of definitions (definition ∷ [])
          ∙ ap₂ (λ a b. a ++ b) before.parts (ap (λ p. p ∷ []) pair)
          ∙ sym (map-append parts_in words (text ∷ []));
    }

-- the word at i has no `=`
pub LacksSign-at : (words : List (Bor (List ℕ))) (i : ℕ) (d : Bor (List ℕ)) → i < length words
    → ¬ (Contains (slice_index_or words i d).now equals_sign) → LacksSign (map (λ text. text.now) words)
LacksSign-at words i d lt none =
    let text = (slice_index_or words i d).now in
    let fits : i < length (map (λ text. text.now) words) = rw length-map lt in
    (text, (i, fits, get_or-map (λ text. text.now) words i d text lt), none)
