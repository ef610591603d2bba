-- One more definition.
use Rattle.std.proofs.Common.{◌≡◌, ◌+◌, ◌<◌, ◌≤◌, ℕ, List, [], ◌∷◌, ◌++◌, Bool, true, false, Option, None, Some, option_map, refl, sym, ap, ◌∙◌, drop, length, get_or, String, Global, string_bytes, if◌then◌else◌}
use Rattle.std.proofs.lemmas.List.{at_drop_more, at_drop_all}
use Rattle.std.specs.Option.{option_or}
use Rattle.std.specs.Str.{bytes_eq}
use Rattle.template_values_model.specs.Val.{Val, text}
use Rattle.template_values_core.specs.Maps.{last_at}
use Rattle.template_values_core.specs.Shape.{pairs_in}
use Rattle.template_values_core.specs.declared.value.Entry.{Entry}
use Rattle.template_program_parts.specs.Context.{defined_under, text_pairs}
use Rattle.template_program_contexts.proofs.Saying.{LeftSay, left_push}

-- the text of the last of these definitions, under a name
abbrev pub texts_under : List (String Global × String Global) → List ℕ → Option Val
texts_under definitions name = option_map text (defined_under (text_pairs definitions) name)

map_or : (a b : Option (List ℕ)) → option_map text (option_or a b) ≡ option_or (option_map text a) (option_map text b)
map_or None b = refl
map_or (Some x) b = refl

map_if : (b : Bool) (t : List ℕ) → option_map text (if b then Some t else None) ≡ (if b then Some (text t) else None)
map_if true t = refl
map_if false t = refl

module _ (ds : List (String Global × String Global)) (k : ℕ) (d : String Global × String Global) (below : k < length ds) (is : d ≡ get_or ds k d) where
  left_under : (name : List ℕ) → texts_under (drop k ds) name
      ≡ option_or (texts_under (drop (k + 1) ds) name) (if bytes_eq (string_bytes d.0) name then Some (text (string_bytes d.1)) else None)
  left_under name =
      at_drop_more (λ xs. texts_under xs name) ds k d below
      ∙ ap (λ x. texts_under (x ∷ drop (k + 1) ds) name) (sym is)
      ∙ map_or (defined_under (text_pairs (drop (k + 1) ds)) name) _
      ∙ ap (option_or (texts_under (drop (k + 1) ds) name)) (map_if (bytes_eq (string_bytes d.0) name) (string_bytes d.1))

  pub definition_said : (es : List Entry) (e : Entry) (all : List ℕ → Option Val) → e.key ≡ text (string_bytes d.0) → e.value ≡ text (string_bytes d.1)
      → LeftSay (texts_under (drop k ds)) es all → LeftSay (texts_under (drop (k + 1) ds)) (es ++ e ∷ []) all
  definition_said es e all key value h =
      left_push (texts_under (drop (k + 1) ds)) all es e (string_bytes d.0) (text (string_bytes d.1)) key value
      (λ name. ap (λ found. option_or found (last_at name (pairs_in es))) (sym (left_under name)) ∙ h name)

-- none is left
pub definitions_end : (ds : List (String Global × String Global)) (k : ℕ) (es : List Entry) (all : List ℕ → Option Val) → length ds ≤ k → LeftSay (texts_under (drop k ds)) es all
    → (name : List ℕ) → last_at name (pairs_in es) ≡ all name
definitions_end ds k es all above h =
    λ name. ap (λ found. option_or found (last_at name (pairs_in es))) (sym (at_drop_all (λ xs. texts_under xs name) ds k above)) ∙ h name
