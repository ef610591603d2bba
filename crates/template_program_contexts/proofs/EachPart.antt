-- The values and the entries so far, beside those of the TOML that is left.
use Rattle.std.proofs.Common.{◌≡◌, ◌<◌, ℕ, List, Bool, true, false, [], ◌∷◌, ◌++◌, Option, None, Some, Global, String, refl, sym, ap, ◌∙◌, subst, append_assoc, arith, string_bytes}
use Rattle.std.proofs.lemmas.List.{append-nil}
use Rattle.std.specs.Str.{is_utf8, IsUtf8}
use Rattle.std.proofs.lemmas.Str.{IsUtf8-from_is_utf8, is_utf8-from_IsUtf8}
use Rattle.toml.specs.Parse.{parse_document}
use Rattle.toml.specs.View.{view, items_view, members_view}
use Rattle.toml.specs.Data.{Data, Members, table}
use Rattle.toml.specs.declared.value.Value.{Value}
use Rattle.std.specs.Option.{option_or}
use Rattle.template_values_errors.specs.declared.ErrorKind.{ErrorKind}
use Rattle.template_values_json.specs.Json.{IsRefusal}
use Rattle.template_values_json.proofs.Last.{option_or_assoc}
use Rattle.template_program_contexts.proofs.Refusals.{or_faultless, refusal_first}
use Rattle.template_values_model.specs.Lookup.{value_at}
use Rattle.template_values_model.specs.Val.{Val, Vals, no_vals, vals_more, text, vals_of, items_of}
use Rattle.template_values_core.specs.Depth.{depth, vals_depth}
use Rattle.template_values_core.specs.Maps.{last_at}
use Rattle.template_values_core.proofs.PairLemmas.{pairs_in_push}
use Rattle.template_values_core.proofs.LastGiven.{entry_at-collected}
use Rattle.template_values_core.specs.Shape.{pairs_in}
use Rattle.template_values_core.specs.declared.value.Entry.{Entry}
use Rattle.template_program_contexts.specs.Toml.{fault_of_depth, fault_of_part, toml_fault, toml_in, toml_value, toml_values, toml_pairs}

vals_of-items_of : (vs : Vals) → vals_of (items_of vs) ≡ vs
vals_of-items_of no_vals = refl
vals_of-items_of (vals_more v vs) = ap (vals_more v) (vals_of-items_of vs)

-- no item is left
pub all_values : (vs : List Val) (left : List Value) (all : Vals) → left ≡ [] → vs ++ items_of (toml_values (items_view left)) ≡ items_of all → vals_of vs ≡ all
all_values vs left all none h =
    let are : vs ++ [] ≡ items_of all = subst (λ xs. vs ++ items_of (toml_values (items_view xs)) ≡ items_of all) none h in
    ap vals_of (sym (append-nil vs) ∙ are) ∙ vals_of-items_of all

-- one more item, and its value
pub value_more : (vs : List Val) (v : Val) (x : Value) (left : List Value) (all : List Val) → v ≡ toml_value (view x)
    → vs ++ items_of (toml_values (items_view (x ∷ left))) ≡ all → (vs ++ v ∷ []) ++ items_of (toml_values (items_view left)) ≡ all
value_more vs v x left all is h = append_assoc vs (v ∷ []) (items_of (toml_values (items_view left))) ∙ rw is h

-- one more member, and its entry
pub entry_more : (es : List Entry) (e : Entry) (m : String Global × Value) (left : List (String Global × Value)) (all : List (Val × Val)) → e.key ≡ text (string_bytes m.0) → e.value ≡ toml_value (view m.1)
    → pairs_in es ++ toml_pairs (members_view (m ∷ left)) ≡ all → pairs_in (es ++ e ∷ []) ++ toml_pairs (members_view left) ≡ all
entry_more es e m left all key value h = pairs_in_push es e (toml_pairs (members_view left)) ∙ rw (key, value) h

-- one more value leaves a level
pub within_more : (vs : List Val) (v : Val) → depth v < 500 → vals_depth (vals_of vs) < 500 → vals_depth (vals_of (vs ++ v ∷ [])) < 500
within_more [] v h k = omega (arith, h)
within_more (w ∷ vs) v h k = omega (arith, k, within_more vs v h (omega (arith, k)))

-- the last one with a name is what the map of them has under it
pub toml_said : (ms : Members) (es : List Entry) (name : List ℕ) → pairs_in es ≡ toml_pairs ms → last_at name (pairs_in es) ≡ value_at name (toml_value (table ms))
toml_said ms es name are = ap (last_at name) are ∙ sym (entry_at-collected name (toml_pairs ms))

-- what bytes say as TOML
pub toml_in_text : (bytes : List ℕ) (t : Members) → IsUtf8 bytes → parse_document bytes ≡ Some t → toml_in bytes ≡ Some t
toml_in_text bytes t utf8 h = rw (is_utf8-from_IsUtf8 bytes utf8) h

no_toml_by : (b : Bool) (bytes : List ℕ) → is_utf8 bytes ≡ b → (IsUtf8 bytes → parse_document bytes ≡ None) → toml_in bytes ≡ None
no_toml_by true bytes is h = rw is (h (IsUtf8-from_is_utf8 bytes is))
no_toml_by false bytes is h = rw is refl

pub no_toml_in : (bytes : List ℕ) → (IsUtf8 bytes → parse_document bytes ≡ None) → toml_in bytes ≡ None
no_toml_in bytes h = no_toml_by (is_utf8 bytes) bytes refl h

-- what stands in an array or a table is refused
pub part_refused : (d : Data) (later : Option ErrorKind) (kinds : List ErrorKind) → IsRefusal (fault_of_part d) kinds
    → IsRefusal (option_or (toml_fault d) (option_or (fault_of_depth (toml_value d)) later)) kinds
part_refused d later kinds refused =
    rw (sym (option_or_assoc (toml_fault d) (fault_of_depth (toml_value d)) later)) (refusal_first (fault_of_part d) later kinds refused)

-- and is not
pub part_passes : (d : Data) (later : Option ErrorKind) → fault_of_part d ≡ None → option_or (toml_fault d) (option_or (fault_of_depth (toml_value d)) later) ≡ later
part_passes d later none =
    sym (option_or_assoc (toml_fault d) (fault_of_depth (toml_value d)) later) ∙ or_faultless (fault_of_part d) later none
