-- The values and the entries so far, beside those of the items and the members that are left.
use Rattle.std.proofs.Common.{◌≡◌, List, [], ◌∷◌, ◌++◌, refl, sym, ap, ◌∙◌, subst, string_bytes}
use Rattle.std.proofs.lemmas.List.{append-nil}
use Rattle.serde_json.specs.View.{view, items_view, members_view}
use Rattle.serde_json.proofs.Views.{Entry as Member}
use Rattle.serde_json.specs.declared.value.Value.{Value}
use Rattle.template_values_model.specs.Val.{Val, Vals, no_vals, vals_more, text, vals_of, items_of}
use Rattle.template_values_core.proofs.PairLemmas.{pairs_in_push}
use Rattle.template_values_core.specs.Shape.{pairs_in}
use Rattle.template_values_core.specs.declared.value.Entry.{Entry}
use Rattle.template_values_json.specs.Json.{value_of, values_of, named_values}

vals_of-items_of : (vs : Vals) → vals_of (items_of vs) ≡ vs
vals_of-items_of no_vals = refl
vals_of-items_of (vals_more v vs) = ap (vals_more v) (vals_of-items_of vs)

-- no item is left
pub all_values : (vs : List Val) (left : List Value) (all : Vals) → left ≡ [] → vs ++ items_of (values_of (items_view left)) ≡ items_of all → vals_of vs ≡ all
all_values vs left all none h =
    let are : vs ++ [] ≡ items_of all = subst (λ xs. vs ++ items_of (values_of (items_view xs)) ≡ items_of all) none h in
    ap vals_of (sym (append-nil vs) ∙ are) ∙ vals_of-items_of all

-- one more member, and its entry
pub entry_more : (es : List Entry) (e : Entry) (m : Member) (left : List Member) (all : List (Val × Val)) → e.key ≡ text (string_bytes m.0) → e.value ≡ value_of (view m.1)
    → pairs_in es ++ named_values (members_view (m ∷ left)) ≡ all → pairs_in (es ++ e ∷ []) ++ named_values (members_view left) ≡ all
entry_more es e m left all key value h = pairs_in_push es e (named_values (members_view left)) ∙ rw (key, value) h
