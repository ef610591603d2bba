-- A value in which no namespace stands is not changed by freezing.
use Rattle.std.proofs.Common.{◌≡◌, ◌+◌, ◌≤◌, ◌<◌, ℕ, zero, suc, Bool, false, List, [], ◌∷◌, length, drop, get_or, Some, Ok, refl, sym, ap, ◌∙◌, subst, arith}
use Rattle.std.specs.Prelude.{◌||◌}
use Rattle.std.proofs.lemmas.List.{at_drop_all}
use Rattle.template_values_model.specs.Val.{Val, Vals, Pairs, undefined, silent_undefined, none, truth, int, text, safe_text, bytes, list, tuple, map, keyword_map, «module», function, namespace, loop_record, macro_record, vals_of, items_of, no_vals, vals_more}
use Rattle.template_values_core.specs.Depth.{depth, vals_depth, pairs_depth}
use Rattle.template_values_core.specs.Kept.{IsRising}
use Rattle.template_values_core.specs.Maps.{collected, pairs_of}
use Rattle.template_values_core.specs.Reads.{items_in, pairs_held}
use Rattle.template_values_core.specs.Shape.{pairs_in}
use Rattle.template_values_core.specs.declared.value.Entry.{Entry}
use Rattle.template_values_core.proofs.Sorting.{collected-rising}
use Rattle.template_values_forms.specs.Answers.{mapped}
use Rattle.template_values_forms.specs.Frozen.{both, holds_namespace, vals_hold_namespace, pairs_hold_namespace, list_holding, tuple_holding, map_holding, keyword_map_holding, module_holding, one_more}
use Rattle.template_values_forms.specs.Given.{PairsStay, Stays, ValsStay}
use Rattle.template_values_forms.proofs.Gathering.{drop_at}

-- ---- items and entries

pub no_vals_stay : ValsStay []
no_vals_stay known n within = refl

pub vals_more_stay : (v : Val) (vs : List Val) → Stays v → ValsStay vs → ValsStay (v ∷ vs)
vals_more_stay v vs here rest known n within = λ i. one_more (here known n (omega (arith, within)) i) (rest known n (omega (arith, within)) i)

pub no_pairs_stay : PairsStay []
no_pairs_stay known n within = refl

pub pairs_more_stay : (k v : Val) (ps : List (Val × Val)) → Stays k → Stays v → PairsStay ps → PairsStay ((k, v) ∷ ps)
pairs_more_stay k v ps key value rest known n within =
    λ i. one_more (both (key known n (omega (arith, within)) i) (value known n (omega (arith, within)) i)) (rest known n (omega (arith, within)) i)

-- the items that are left, and none
pub item_holds : (vs : List Val) (i : ℕ) (v : Val) → i < length vs → v ≡ get_or vs i v → holds_namespace v ≡ false
    → vals_hold_namespace (vals_of (drop i vs)) ≡ vals_hold_namespace (vals_of (drop (i + 1) vs))
item_holds vs i v within read free =
    ap (λ (us : List Val). vals_hold_namespace (vals_of us)) (drop_at vs i v within read)
    ∙ ap (λ (b : Bool). b || vals_hold_namespace (vals_of (drop (i + 1) vs))) free

pub item_stays : (vs : List Val) (i : ℕ) (v : Val) → i < length vs → v ≡ get_or vs i v → Stays v → ValsStay (drop (i + 1) vs) → ValsStay (drop i vs)
item_stays vs i v within read here rest = subst (λ (us : List Val). ValsStay us) (sym (drop_at vs i v within read))
    (vals_more_stay v (drop (i + 1) vs) here rest)

pub no_items_left : (vs : List Val) (i : ℕ) → length vs ≤ i → ValsStay (drop i vs)
no_items_left vs i h = subst (λ (us : List Val). ValsStay us) (sym (at_drop_all (λ us. us) vs i h)) no_vals_stay

pub entry_holds : (es : List Entry) (i : ℕ) (e : Entry) → i < length es → e ≡ get_or es i e → holds_namespace e.key ≡ false → holds_namespace e.value ≡ false
    → pairs_hold_namespace (pairs_of (pairs_in (drop i es))) ≡ pairs_hold_namespace (pairs_of (pairs_in (drop (i + 1) es)))
entry_holds es i e within read key value =
    let rest = pairs_hold_namespace (pairs_of (pairs_in (drop (i + 1) es))) in
    ap (λ (ds : List Entry). pairs_hold_namespace (pairs_of (pairs_in ds))) (drop_at es i e within read)
    ∙ ap (λ (b : Bool). b || (holds_namespace e.value || rest)) key ∙ ap (λ (b : Bool). b || rest) value

pub entry_stays : (es : List Entry) (i : ℕ) (e : Entry) → i < length es → e ≡ get_or es i e → Stays e.key → Stays e.value
    → PairsStay (pairs_in (drop (i + 1) es)) → PairsStay (pairs_in (drop i es))
entry_stays es i e within read key value rest =
    subst (λ (ds : List Entry). PairsStay (pairs_in ds)) (sym (drop_at es i e within read))
    (pairs_more_stay e.key e.value (pairs_in (drop (i + 1) es)) key value rest)

pub no_entries_left : (es : List Entry) (i : ℕ) → length es ≤ i → PairsStay (pairs_in (drop i es))
no_entries_left es i h = subst (λ (ds : List Entry). PairsStay (pairs_in ds)) (sym (at_drop_all (λ ds. ds) es i h)) no_pairs_stay

-- ---- containers

list_stays : (vs : List Val) → ValsStay vs → Stays (list (vals_of vs))
list_stays vs h known zero within = absurd (omega (arith, within))
list_stays vs h known (suc n) within = ap (mapped list_holding) (h known n (omega (arith, within)))

tuple_stays : (vs : List Val) → ValsStay vs → Stays (tuple (vals_of vs))
tuple_stays vs h known zero within = absurd (omega (arith, within))
tuple_stays vs h known (suc n) within = ap (mapped tuple_holding) (h known n (omega (arith, within)))

-- made of pairs whose keys rise, they are those pairs
same_pairs : (es : List Entry) → IsRising es → collected (pairs_in es) ≡ pairs_of (pairs_in es)
same_pairs es rising = ap pairs_of (collected-rising es rising)

map_stays : (es : List Entry) → IsRising es → PairsStay (pairs_in es) → Stays (map (pairs_of (pairs_in es)))
map_stays es rising h known zero within = absurd (omega (arith, within))
map_stays es rising h known (suc n) within =
    ap (mapped map_holding) (h known n (omega (arith, within))) ∙ ap (λ (ps : Pairs). Ok (map ps)) (same_pairs es rising)

keyword_map_stays : (es : List Entry) → IsRising es → PairsStay (pairs_in es) → Stays (keyword_map (pairs_of (pairs_in es)))
keyword_map_stays es rising h known zero within = absurd (omega (arith, within))
keyword_map_stays es rising h known (suc n) within =
    ap (mapped keyword_map_holding) (h known n (omega (arith, within))) ∙ ap (λ (ps : Pairs). Ok (keyword_map ps)) (same_pairs es rising)

module_stays : (es : List Entry) (s : List ℕ) → IsRising es → PairsStay (pairs_in es) → Stays («module» (pairs_of (pairs_in es)) s)
module_stays es s rising h known zero within = absurd (omega (arith, within))
module_stays es s rising h known (suc n) within =
    ap (mapped (module_holding s)) (h known n (omega (arith, within))) ∙ ap (λ (ps : Pairs). Ok («module» ps s)) (same_pairs es rising)

-- ---- a value by its items, by its entries, and one that has neither

vals_of-items_of : (vs : Vals) → vals_of (items_of vs) ≡ vs
vals_of-items_of no_vals = refl
vals_of-items_of (vals_more v vs) = ap (vals_more v) (vals_of-items_of vs)

items_are : (ws : Vals) (vs : List Val) → Some (items_of ws) ≡ Some vs → vals_of vs ≡ ws
items_are ws vs is =
    let e : items_of ws ≡ vs = cc in
    ap vals_of (sym e) ∙ vals_of-items_of ws

by_items : (P : Val → Type 0) (v : Val) (vs : List Val) → items_in v ≡ Some vs → P (list (vals_of vs)) → P (tuple (vals_of vs)) → P v
by_items P (list ws) vs is first second = subst (λ (us : Vals). P (list us)) (items_are ws vs is) first
by_items P (tuple ws) vs is first second = subst (λ (us : Vals). P (tuple us)) (items_are ws vs is) second
by_items P undefined vs is first second = absurd (cc)
by_items P silent_undefined vs is first second = absurd (cc)
by_items P none vs is first second = absurd (cc)
by_items P (truth b) vs is first second = absurd (cc)
by_items P (int z) vs is first second = absurd (cc)
by_items P (text s) vs is first second = absurd (cc)
by_items P (safe_text s) vs is first second = absurd (cc)
by_items P (bytes s) vs is first second = absurd (cc)
by_items P (map ps) vs is first second = absurd (cc)
by_items P (keyword_map ps) vs is first second = absurd (cc)
by_items P («module» ps s) vs is first second = absurd (cc)
by_items P (function id place) vs is first second = absurd (cc)
by_items P (namespace id place) vs is first second = absurd (cc)
by_items P (loop_record id place) vs is first second = absurd (cc)
by_items P (macro_record id place) vs is first second = absurd (cc)

by_pairs : (P : Val → Type 0) (v : Val) (ps : Pairs) → pairs_held v ≡ Some ps → P (map ps) → P (keyword_map ps) → ((s : List ℕ) → P («module» ps s)) → P v
by_pairs P (map qs) ps is first second third = let e : ps ≡ qs = cc in subst (λ (us : Pairs). P (map us)) e first
by_pairs P (keyword_map qs) ps is first second third = let e : ps ≡ qs = cc in subst (λ (us : Pairs). P (keyword_map us)) e second
by_pairs P («module» qs s) ps is first second third = let e : ps ≡ qs = cc in subst (λ (us : Pairs). P («module» us s)) e (third s)
by_pairs P (list vs) ps is first second third = absurd (cc)
by_pairs P (tuple vs) ps is first second third = absurd (cc)
by_pairs P undefined ps is first second third = absurd (cc)
by_pairs P silent_undefined ps is first second third = absurd (cc)
by_pairs P none ps is first second third = absurd (cc)
by_pairs P (truth b) ps is first second third = absurd (cc)
by_pairs P (int z) ps is first second third = absurd (cc)
by_pairs P (text s) ps is first second third = absurd (cc)
by_pairs P (safe_text s) ps is first second third = absurd (cc)
by_pairs P (bytes s) ps is first second third = absurd (cc)
by_pairs P (function id place) ps is first second third = absurd (cc)
by_pairs P (namespace id place) ps is first second third = absurd (cc)
by_pairs P (loop_record id place) ps is first second third = absurd (cc)
by_pairs P (macro_record id place) ps is first second third = absurd (cc)

pub items_deep : (v : Val) (vs : List Val) → items_in v ≡ Some vs → depth v ≡ vals_depth (vals_of vs) + 1
items_deep v vs is = by_items (λ u. depth u ≡ vals_depth (vals_of vs) + 1) v vs is refl refl

pub items_hold : (v : Val) (vs : List Val) → items_in v ≡ Some vs → holds_namespace v ≡ vals_hold_namespace (vals_of vs)
items_hold v vs is = by_items (λ u. holds_namespace u ≡ vals_hold_namespace (vals_of vs)) v vs is refl refl

pub items_stay : (v : Val) (vs : List Val) → items_in v ≡ Some vs → ValsStay vs → Stays v
items_stay v vs is h = by_items Stays v vs is (list_stays vs h) (tuple_stays vs h)

pub pairs_deep : (v : Val) (ps : Pairs) → pairs_held v ≡ Some ps → depth v ≡ pairs_depth ps + 1
pairs_deep v ps is = by_pairs (λ u. depth u ≡ pairs_depth ps + 1) v ps is refl refl (λ s. refl)

pub pairs_hold : (v : Val) (ps : Pairs) → pairs_held v ≡ Some ps → holds_namespace v ≡ pairs_hold_namespace ps
pairs_hold v ps is = by_pairs (λ u. holds_namespace u ≡ pairs_hold_namespace ps) v ps is refl refl (λ s. refl)

pub pairs_stay : (v : Val) (es : List Entry) → pairs_held v ≡ Some (pairs_of (pairs_in es)) → IsRising es → PairsStay (pairs_in es) → Stays v
pairs_stay v es is rising h =
    by_pairs Stays v (pairs_of (pairs_in es)) is (map_stays es rising h) (keyword_map_stays es rising h) (λ s. module_stays es s rising h)

-- a value of no depth is no container
pub flat_stays : (v : Val) → depth v ≡ 0 → holds_namespace v ≡ false → Stays v
flat_stays undefined flat is known zero within = refl
flat_stays undefined flat is known (suc n) within = refl
flat_stays silent_undefined flat is known zero within = refl
flat_stays silent_undefined flat is known (suc n) within = refl
flat_stays none flat is known zero within = refl
flat_stays none flat is known (suc n) within = refl
flat_stays (truth b) flat is known zero within = refl
flat_stays (truth b) flat is known (suc n) within = refl
flat_stays (int z) flat is known zero within = refl
flat_stays (int z) flat is known (suc n) within = refl
flat_stays (text s) flat is known zero within = refl
flat_stays (text s) flat is known (suc n) within = refl
flat_stays (safe_text s) flat is known zero within = refl
flat_stays (safe_text s) flat is known (suc n) within = refl
flat_stays (bytes s) flat is known zero within = refl
flat_stays (bytes s) flat is known (suc n) within = refl
flat_stays (function id place) flat is known zero within = refl
flat_stays (function id place) flat is known (suc n) within = refl
flat_stays (loop_record id place) flat is known zero within = refl
flat_stays (loop_record id place) flat is known (suc n) within = refl
flat_stays (macro_record id place) flat is known zero within = refl
flat_stays (macro_record id place) flat is known (suc n) within = refl
flat_stays (namespace id place) flat is known n within = absurd (cc)
flat_stays (list vs) flat is known n within = absurd (omega (arith, flat))
flat_stays (tuple vs) flat is known n within = absurd (omega (arith, flat))
flat_stays (map ps) flat is known n within = absurd (omega (arith, flat))
flat_stays (keyword_map ps) flat is known n within = absurd (omega (arith, flat))
flat_stays («module» ps s) flat is known n within = absurd (omega (arith, flat))
