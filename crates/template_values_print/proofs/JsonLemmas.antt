-- Lemmas on the JSON of values one behind the other.
use Rattle.std.proofs.Common.{◌≡◌, ℕ, zero, suc, ◌-◌, ◌<◌, List, [], ◌∷◌, ◌++◌, length, drop, get_or, refl, sym, ◌∙◌, ap, arith, append_assoc, Bool, true, false, Result, Ok, Err}
use Rattle.serde_json.specs.Data.{Data, Items, Members, array, object}
use Rattle.serde_json.specs.Written.{comma_if, compact_text, items_text, members_text}
use Rattle.json.specs.Print.{quoted}
use Rattle.template_values_model.specs.Fault.{Fault}
use Rattle.template_values_model.specs.Val.{Val, Vals, Pairs, vals_of}
use Rattle.template_values_core.specs.Maps.{pairs_of}
use Rattle.template_values_core.specs.Shape.{pairs_in}
use Rattle.template_values_core.specs.declared.value.Entry.{Entry}
use Rattle.template_values_forms.specs.Answers.{joined, mapped}
use Rattle.template_values_forms.specs.Json.{inner_data, item_more, items_data, key_data, key_text, member_more, members_data, nested_data}
use Rattle.template_values_forms.specs.Known.{Known}
use Rattle.template_values_print.proofs.PrintLemmas.{vals_of-drop, pairs_of-drop}

-- where values may nest further
pub inner_data-below : (known : Known) (n : ℕ) (v : Val) → (n ≡ 0 → ⊥) → inner_data known n v ≡ nested_data known (inner_data known (n - 1)) v
inner_data-below known zero v some = absurd (some refl)
inner_data-below known (suc n) v some = let e : n ≡ suc n - 1 = omega arith in ap (λ (m : ℕ). nested_data known (inner_data known m) v) e

-- the text of an array and of an object, from their items and members
pub array_text : (r : Result Items Fault) → joined (Ok (91 ∷ [])) (mapped (items_text false) r) ≡ mapped compact_text (mapped array r)
array_text (Ok ds) = refl
array_text (Err kind) = refl

pub object_text : (r : Result Members Fault) → joined (Ok (123 ∷ [])) (mapped (members_text false) r) ≡ mapped compact_text (mapped object r)
object_text (Ok ms) = refl
object_text (Err kind) = refl

item_more-text : (later : Bool) (r : Result Data Fault) (q : Result Items Fault) → joined (joined (Ok (comma_if later)) (mapped compact_text r)) (mapped (items_text true) q) ≡ mapped (items_text later) (item_more r q)
item_more-text later (Ok d) (Ok ds) = ap Ok (append_assoc (comma_if later) (compact_text d) (items_text true ds))
item_more-text later (Ok d) (Err kind) = refl
item_more-text later (Err kind) q = refl

member_text : (later : Bool) (k c m : List ℕ) → (comma_if later ++ (key_text k ++ c)) ++ m ≡ comma_if later ++ (quoted k ++ 58 ∷ (c ++ m))
member_text later k c m =
    append_assoc (comma_if later) (key_text k ++ c) m
    ∙ ap (λ (z : List ℕ). comma_if later ++ z) (ap (λ (z : List ℕ). z ++ m) (append_assoc (quoted k) (58 ∷ []) c) ∙ append_assoc (quoted k) (58 ∷ c) m)

member_more-text : (later : Bool) (k : Result (List ℕ) Fault) (r : Result Data Fault) (q : Result Members Fault) → joined (joined (Ok (comma_if later)) (joined (mapped key_text k) (mapped compact_text r))) (mapped (members_text true) q) ≡ mapped (members_text later) (member_more k r q)
member_more-text later (Ok k) (Ok d) (Ok ms) = ap Ok (member_text later k (compact_text d) (members_text true ms))
member_more-text later (Ok k) (Ok d) (Err kind) = refl
member_more-text later (Ok k) (Err kind) q = refl
member_more-text later (Err kind) r q = refl

-- the text of the items that are left, from the first of them
pub items_data-next : (later : Bool) (f : Val → Result Data Fault) (vs : List Val) (i j : ℕ) (v : Val)
    → j ≡ suc i → i < length vs → v ≡ get_or vs i v
    → mapped (items_text later) (items_data f (vals_of (drop i vs))) ≡ joined (joined (Ok (comma_if later)) (mapped compact_text (f v))) (mapped (items_text true) (items_data f (vals_of (drop j vs))))
items_data-next later f vs i j v e h is =
    ap (λ (x : Vals). mapped (items_text later) (items_data f x)) (vals_of-drop vs i j v e h is)
    ∙ sym (item_more-text later (f v) (items_data f (vals_of (drop j vs))))

pub members_data-next : (later : Bool) (f : Val → Result Data Fault) (es : List Entry) (i j : ℕ) (e : Entry)
    → j ≡ suc i → i < length es → e ≡ get_or es i e
    → mapped (members_text later) (members_data f (pairs_of (pairs_in (drop i es)))) ≡ joined (joined (Ok (comma_if later)) (joined (mapped key_text (key_data e.key)) (mapped compact_text (f e.value)))) (mapped (members_text true) (members_data f (pairs_of (pairs_in (drop j es)))))
members_data-next later f es i j e is_next h is =
    ap (λ (x : Pairs). mapped (members_text later) (members_data f x)) (pairs_of-drop es i j e is_next h is)
    ∙ sym (member_more-text later (key_data e.key) (f e.value) (members_data f (pairs_of (pairs_in (drop j es)))))
