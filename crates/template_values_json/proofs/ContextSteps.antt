-- The values and the entries so far, beside those of the items and the members that are left.
use Rattle.std.proofs.Common.{arith, ◌≡◌, ℕ, ◌<◌, ◌≤◌, ◌+◌, List, [], ◌∷◌, ◌++◌, length, drop, get_or, refl, sym, ap, ◌∙◌, append-nil, append_assoc}
use Rattle.std.proofs.lemmas.List.{at_drop_more, at_drop_all}
use Rattle.std.specs.Borrow.{Bor}
use Rattle.json.specs.Tree.{members_depth}
use Rattle.json.specs.Value.{items_view, members_view, value_view}
use Rattle.json.specs.declared.value.Value.{Value}
use Rattle.template_values_model.specs.Val.{Val, Vals, no_vals, vals_more, text, vals_of, items_of}
use Rattle.template_values_core.proofs.PairLemmas.{pairs_in_push}
use Rattle.template_values_core.specs.Shape.{pairs_in}
use Rattle.template_values_core.specs.declared.value.Entry.{Entry}
use Rattle.template_values_json.specs.Spelled.{spelled_value, spelled_values, spelled_pairs}

vals_of-items_of : (vs : Vals) → vals_of (items_of vs) ≡ vs
vals_of-items_of no_vals = refl
vals_of-items_of (vals_more v vs) = ap (vals_more v) (vals_of-items_of vs)

-- the values of the items that are left
abbrev pub values_left : {A : Type 0} → List (Value A) → List Val
values_left items = items_of (spelled_values (items_view items))

abbrev pub pairs_left : {A : Type 0} → List (Bor (List ℕ) × Value A) → List (Val × Val)
pairs_left members = spelled_pairs (members_view members)

pub value_more : {A : Type 0} (items : List (Value A)) (k : ℕ) (j : Value A) (v : Val) (so_far all : List Val) → k < length items → j ≡ get_or items k j → v ≡ spelled_value (value_view j)
    → so_far ++ values_left (drop k items) ≡ all → (so_far ++ (v ∷ [])) ++ values_left (drop (k + 1) items) ≡ all
value_more items k j v so_far all h e is left =
    append_assoc so_far (v ∷ []) (values_left (drop (k + 1) items))
    ∙ ap (λ (x : List Val). so_far ++ x) (ap (λ (x : Val). x ∷ values_left (drop (k + 1) items)) (is ∙ ap (λ (z : Value _). spelled_value (value_view z)) e) ∙ sym (at_drop_more values_left items k j h))
    ∙ left

pub values_end : {A : Type 0} (items : List (Value A)) (k : ℕ) (so_far : List Val) → length items ≤ k → so_far ++ values_left (drop k items) ≡ values_left items → vals_of so_far ≡ spelled_values (items_view items)
values_end items k so_far h left =
    ap vals_of (sym (append-nil so_far) ∙ ap (λ (x : List Val). so_far ++ x) (sym (at_drop_all values_left items k h)) ∙ left) ∙ vals_of-items_of (spelled_values (items_view items))

pub entry_more : {A : Type 0} (members : List (Bor (List ℕ) × Value A)) (k : ℕ) (m : Bor (List ℕ) × Value A) (e : Entry) (es : List Entry) (all : List (Val × Val)) → k < length members → m ≡ get_or members k m
    → e.key ≡ text m.0.now → e.value ≡ spelled_value (value_view m.1) → pairs_in es ++ pairs_left (drop k members) ≡ all → pairs_in (es ++ (e ∷ [])) ++ pairs_left (drop (k + 1) members) ≡ all
entry_more members k m e es all h at key value left =
    pairs_in_push es e (pairs_left (drop (k + 1) members))
    ∙ ap (λ (x : List (Val × Val)). pairs_in es ++ x) (rw (key, value) (sym (at_drop_more pairs_left members k m h ∙ ap (λ z. pairs_left (z ∷ drop (k + 1) members)) (sym at))))
    ∙ left

pub members_fall : {A : Type 0} (members : List (Bor (List ℕ) × Value A)) (k : ℕ) (m : Bor (List ℕ) × Value A) → k < length members → members_depth (members_view (drop (k + 1) members)) ≤ members_depth (members_view (drop k members))
members_fall members k m h = omega (arith, at_drop_more (λ ms. members_depth (members_view ms)) members k m h)

pub entries_end : {A : Type 0} (members : List (Bor (List ℕ) × Value A)) (k : ℕ) (es : List Entry) → length members ≤ k → pairs_in es ++ pairs_left (drop k members) ≡ pairs_left members → pairs_in es ≡ pairs_left members
entries_end members k es h left =
    sym (append-nil (pairs_in es)) ∙ ap (λ (x : List (Val × Val)). pairs_in es ++ x) (sym (at_drop_all pairs_left members k h)) ∙ left
