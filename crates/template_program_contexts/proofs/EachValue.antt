-- One more value.
use Rattle.std.proofs.Common.{◌≡◌, ◌+◌, ◌<◌, ◌≤◌, ℕ, List, [], ◌∷◌, ◌++◌, Option, None, Some, sym, ap, ◌∙◌, drop, length, get_or, String, Global, string_bytes, if◌then◌else◌}
use Rattle.std.proofs.lemmas.List.{at_drop_more, at_drop_all}
use Rattle.std.specs.Option.{option_or}
use Rattle.std.specs.Str.{bytes_eq}
use Rattle.template_values_errors.specs.declared.ErrorKind.{ErrorKind}
use Rattle.template_values_model.specs.Val.{Val, text}
use Rattle.template_values_json.specs.Json.{IsRefusal}
use Rattle.template_values_json.specs.Contexts.{context_of}
use Rattle.template_values_json.specs.declared.contexts.Floats.{Floats}
use Rattle.template_values_core.specs.Maps.{last_at}
use Rattle.template_values_core.specs.Shape.{pairs_in}
use Rattle.template_values_core.specs.declared.value.Entry.{Entry}
use Rattle.template_program_parts.specs.Context.{text_pairs}
use Rattle.template_program_contexts.specs.Values.{fault_of_value, values_under, fault_of_values}
use Rattle.template_program_contexts.proofs.Refusals.{or_faultless, refusal_first}
use Rattle.template_program_contexts.proofs.Saying.{LeftSay, left_push}

-- what these values have under a name, and the first refusal of them
abbrev pub given_under : Floats → List (String Global × String Global) → List ℕ → Option Val
given_under floats values name = values_under floats (text_pairs values) name

abbrev pub given_fault : Floats → List (String Global × String Global) → Option ErrorKind
given_fault floats values = fault_of_values floats (text_pairs values)

module _ (floats : Floats) (vs : List (String Global × String Global)) (k : ℕ) (v : String Global × String Global) (below : k < length vs) (is : v ≡ get_or vs k v) where
  left_fault : given_fault floats (drop k vs) ≡ option_or (fault_of_value floats (string_bytes v.1)) (given_fault floats (drop (k + 1) vs))
  left_fault = at_drop_more (given_fault floats) vs k v below ∙ ap (λ x. given_fault floats (x ∷ drop (k + 1) vs)) (sym is)

  left_under : (name : List ℕ) → given_under floats (drop k vs) name
      ≡ option_or (given_under floats (drop (k + 1) vs) name) (if bytes_eq (string_bytes v.0) name then context_of floats (string_bytes v.1) else None)
  left_under name = at_drop_more (λ xs. given_under floats xs name) vs k v below ∙ ap (λ x. given_under floats (x ∷ drop (k + 1) vs) name) (sym is)

  -- it is not refused
  pub value_passes : fault_of_value floats (string_bytes v.1) ≡ None → given_fault floats (drop k vs) ≡ given_fault floats vs
      → given_fault floats (drop (k + 1) vs) ≡ given_fault floats vs
  value_passes none h = sym (or_faultless (fault_of_value floats (string_bytes v.1)) (given_fault floats (drop (k + 1) vs)) none) ∙ sym left_fault ∙ h

  -- it is refused
  pub value_refused : (kinds : List ErrorKind) → IsRefusal (fault_of_value floats (string_bytes v.1)) kinds → given_fault floats (drop k vs) ≡ given_fault floats vs
      → IsRefusal (given_fault floats vs) kinds
  value_refused kinds refused h = rw (sym h, left_fault) (refusal_first _ _ kinds refused)

  -- its entry is put behind those so far
  pub value_said : (es : List Entry) (e : Entry) (value : Val) (all : List ℕ → Option Val) → e.key ≡ text (string_bytes v.0) → e.value ≡ value
      → context_of floats (string_bytes v.1) ≡ Some value
      → LeftSay (given_under floats (drop k vs)) es all → LeftSay (given_under floats (drop (k + 1) vs)) (es ++ e ∷ []) all
  value_said es e value all is_key is_value made h =
      left_push (given_under floats (drop (k + 1) vs)) all es e (string_bytes v.0) value is_key is_value
      (λ name. ap (λ found. option_or found (last_at name (pairs_in es)))
      (ap (λ (m : Option Val). option_or (given_under floats (drop (k + 1) vs) name) (if bytes_eq (string_bytes v.0) name then m else None)) (sym made) ∙ sym (left_under name))
      ∙ h name)

-- none is left
pub values_end : (floats : Floats) (vs : List (String Global × String Global)) (k : ℕ) (es : List Entry) (all : List ℕ → Option Val) → length vs ≤ k
    → LeftSay (given_under floats (drop k vs)) es all → (name : List ℕ) → last_at name (pairs_in es) ≡ all name
values_end floats vs k es all above h =
    λ name. ap (λ found. option_or found (last_at name (pairs_in es))) (sym (at_drop_all (λ xs. given_under floats xs name) vs k above)) ∙ h name

pub values_pass : (floats : Floats) (vs : List (String Global × String Global)) (k : ℕ) → length vs ≤ k → given_fault floats (drop k vs) ≡ given_fault floats vs → given_fault floats vs ≡ None
values_pass floats vs k above h = sym h ∙ at_drop_all (given_fault floats) vs k above
