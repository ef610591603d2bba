-- A frozen value nests no deeper than the levels that it was given.
use Rattle.std.proofs.Common.{◌≡◌, ◌+◌, ◌-◌, ◌≤◌, ◌<◌, ℕ, zero, suc, max, List, [], ◌∷◌, Option, None, Some, Result, Ok, Err, IfErr, IfOk, Ordering, Less, Equal, Greater, inl, inr, refl, ap, subst, arith}
use Rattle.std.specs.Ordering.{match_ordering}
use Rattle.std.specs.BTreeMap.{insert_entry}
use Rattle.template_values_errors.specs.declared.ErrorKind.{ErrorKind}
use Rattle.template_values_model.specs.Fault.{Fault}
use Rattle.template_values_model.specs.Gives.{Gives}
use Rattle.template_values_model.specs.Val.{Val, Vals, Pairs, undefined, silent_undefined, none, truth, int, text, safe_text, bytes, list, tuple, map, keyword_map, «module», function, namespace, loop_record, macro_record, vals_of, no_vals, vals_more, no_pairs, pairs_more}
use Rattle.template_values_core.specs.Answers.{TooDeep}
use Rattle.template_values_core.specs.Depth.{depth, vals_depth, pairs_depth}
use Rattle.template_values_core.specs.Maps.{collected, pairs_of, put_all}
use Rattle.template_values_core.specs.Order.{val_cmp}
use Rattle.template_values_forms.specs.Answers.{mapped}
use Rattle.template_values_forms.specs.Known.{Known}
use Rattle.template_values_forms.specs.Frozen.{both, flat_frozen, frozen_namespace, frozen_pairs, frozen_vals, inner_frozen, list_holding, map_holding, nested_frozen, one_more}

-- ---- maps nest no deeper than the pairs that they are made from

insert_at : (o : Ordering) (k v : Val) (p : Val × Val) (ps more : List (Val × Val))
    → pairs_depth (pairs_of more) ≤ max (max (depth k) (depth v)) (pairs_depth (pairs_of ps))
    → pairs_depth (pairs_of (match_ordering o ((k, v) ∷ p ∷ ps) ((p.0, v) ∷ ps) (p ∷ more))) ≤ max (max (depth k) (depth v)) (pairs_depth (pairs_of (p ∷ ps)))
insert_at Less k v p ps more h = omega arith
insert_at Equal k v p ps more h = omega arith
insert_at Greater k v p ps more h = omega arith

insert_within : (ps : List (Val × Val)) (k v : Val)
    → pairs_depth (pairs_of (insert_entry val_cmp ps k v)) ≤ max (max (depth k) (depth v)) (pairs_depth (pairs_of ps))
insert_within [] k v = omega arith
insert_within (p ∷ ps) k v = insert_at (val_cmp k p.0) k v p ps (insert_entry val_cmp ps k v) (insert_within ps k v)

put_within : (kept given : List (Val × Val)) → pairs_depth (pairs_of (put_all kept given)) ≤ max (pairs_depth (pairs_of kept)) (pairs_depth (pairs_of given))
put_within kept [] = omega arith
put_within kept (p ∷ given) = omega (arith, put_within (insert_entry val_cmp kept p.0 p.1) given, insert_within kept p.0 p.1)

pub collected_within : (n : ℕ) (ps : List (Val × Val)) → pairs_depth (pairs_of ps) ≤ n → pairs_depth (collected ps) ≤ n
collected_within n ps h = omega (arith, put_within [] ps, h)

-- ---- frozen values

-- what is frozen so nests so many levels deep at most
abbrev Within : ℕ → (Val → Result Val Fault) → Type 0
Within n f = (v u : Val) → f v ≡ Ok u → depth u ≤ n

vals_more_within : (n : ℕ) (a : Result Val Fault) (r : Result (List Val) Fault) (us : List Val) → ((u : Val) → a ≡ Ok u → depth u ≤ n)
    → ((ws : List Val) → r ≡ Ok ws → vals_depth (vals_of ws) ≤ n) → one_more a r ≡ Ok us → vals_depth (vals_of us) ≤ n
vals_more_within n (Ok x) (Ok xs) us here rest is =
    let e : x ∷ xs ≡ us = cc in
    subst (λ (ws : List Val). vals_depth (vals_of ws) ≤ n) e (omega (arith, here x refl, rest xs refl))
vals_more_within n (Ok x) (Err fault) us here rest is = absurd (cc)
vals_more_within n (Err fault) r us here rest is = absurd (cc)

pub vals_within : (n : ℕ) (f : Val → Result Val Fault) → Within n f → (vs : Vals) (us : List Val) → frozen_vals f vs ≡ Ok us → vals_depth (vals_of us) ≤ n
vals_within n f h no_vals us is =
    let e : [] ≡ us = cc in
    subst (λ (ws : List Val). vals_depth (vals_of ws) ≤ n) e (omega arith)
vals_within n f h (vals_more v vs) us is = vals_more_within n (f v) (frozen_vals f vs) us (h v) (vals_within n f h vs) is

both_within : (n : ℕ) (a b : Result Val Fault) (p : Val × Val) → ((u : Val) → a ≡ Ok u → depth u ≤ n) → ((u : Val) → b ≡ Ok u → depth u ≤ n)
    → both a b ≡ Ok p → max (depth p.0) (depth p.1) ≤ n
both_within n (Ok k) (Ok v) p first second is =
    let e : (k, v) ≡ p = cc in
    subst (λ (q : Val × Val). max (depth q.0) (depth q.1) ≤ n) e (omega (arith, first k refl, second v refl))
both_within n (Ok k) (Err fault) p first second is = absurd (cc)
both_within n (Err fault) b p first second is = absurd (cc)

pairs_more_within : (n : ℕ) (a : Result (Val × Val) Fault) (r : Result (List (Val × Val)) Fault) (us : List (Val × Val))
    → ((p : Val × Val) → a ≡ Ok p → max (depth p.0) (depth p.1) ≤ n)
    → ((ws : List (Val × Val)) → r ≡ Ok ws → pairs_depth (pairs_of ws) ≤ n) → one_more a r ≡ Ok us → pairs_depth (pairs_of us) ≤ n
pairs_more_within n (Ok x) (Ok xs) us here rest is =
    let e : x ∷ xs ≡ us = cc in
    subst (λ (ws : List (Val × Val)). pairs_depth (pairs_of ws) ≤ n) e (omega (arith, here x refl, rest xs refl))
pairs_more_within n (Ok x) (Err fault) us here rest is = absurd (cc)
pairs_more_within n (Err fault) r us here rest is = absurd (cc)

pub pairs_within : (n : ℕ) (f : Val → Result Val Fault) → Within n f → (ps : Pairs) (us : List (Val × Val)) → frozen_pairs f ps ≡ Ok us
    → pairs_depth (pairs_of us) ≤ n
pairs_within n f h no_pairs us is =
    let e : [] ≡ us = cc in
    subst (λ (ws : List (Val × Val)). pairs_depth (pairs_of ws) ≤ n) e (omega arith)
pairs_within n f h (pairs_more k v ps) us is =
    pairs_more_within n (both (f k) (f v)) (frozen_pairs f ps) us (λ p. both_within n (f k) (f v) p (h k) (h v)) (pairs_within n f h ps) is

mapped_within : {T : Type 0} (g : T → Val) (n : ℕ) (r : Result T Fault) → ((x : T) → r ≡ Ok x → depth (g x) ≤ n) → (u : Val) → mapped g r ≡ Ok u → depth u ≤ n
mapped_within g n (Ok x) h u is =
    let e : g x ≡ u = cc in
    subst (λ (w : Val). depth w ≤ n) e (h x refl)
mapped_within g n (Err fault) h u is = absurd (cc)

abbrev stood : Val → Result Val Fault
stood v = Ok v

same_within : (n : ℕ) (v u : Val) → stood v ≡ Ok u → depth v ≤ n → depth u ≤ n
same_within n v u is h =
    let e : v ≡ u = cc in
    subst (λ (w : Val). depth w ≤ n) e h

flat_within : (n : ℕ) → Within n flat_frozen
flat_within n undefined u is = same_within n undefined u is (omega arith)
flat_within n silent_undefined u is = same_within n silent_undefined u is (omega arith)
flat_within n none u is = same_within n none u is (omega arith)
flat_within n (truth b) u is = same_within n (truth b) u is (omega arith)
flat_within n (int z) u is = same_within n (int z) u is (omega arith)
flat_within n (text s) u is = same_within n (text s) u is (omega arith)
flat_within n (safe_text s) u is = same_within n (safe_text s) u is (omega arith)
flat_within n (bytes s) u is = same_within n (bytes s) u is (omega arith)
flat_within n (function id place) u is = same_within n (function id place) u is (omega arith)
flat_within n (loop_record id place) u is = same_within n (loop_record id place) u is (omega arith)
flat_within n (macro_record id place) u is = same_within n (macro_record id place) u is (omega arith)
flat_within n (list vs) u is = absurd (cc)
flat_within n (tuple vs) u is = absurd (cc)
flat_within n (map ps) u is = absurd (cc)
flat_within n (keyword_map ps) u is = absurd (cc)
flat_within n («module» ps s) u is = absurd (cc)
flat_within n (namespace id place) u is = absurd (cc)

module _ (known : Known) (n : ℕ) (f : Val → Result Val Fault) (h : Within n f) where
  values : (vs : Vals) (us : List Val) → frozen_vals f vs ≡ Ok us → depth (list_holding us) ≤ suc n
  values vs us is = omega (arith, vals_within n f h vs us is)

  pairs : (ps : Pairs) (us : List (Val × Val)) → frozen_pairs f ps ≡ Ok us → depth (map_holding us) ≤ suc n
  pairs ps us is = omega (arith, collected_within n us (pairs_within n f h ps us is))

  held : (found : Option (List (Val × Val))) (u : Val) → frozen_namespace f found ≡ Ok u → depth u ≤ suc n
  held None u is = absurd (cc)
  held (Some ps) u is = mapped_within map_holding (suc n) (frozen_pairs f (pairs_of ps)) (pairs (pairs_of ps)) u is

  nested_within : Within (suc n) (nested_frozen known f)
  nested_within (list vs) u is = mapped_within list_holding (suc n) (frozen_vals f vs) (values vs) u is
  nested_within (tuple vs) u is = mapped_within _ (suc n) (frozen_vals f vs) (values vs) u is
  nested_within (map ps) u is = mapped_within map_holding (suc n) (frozen_pairs f ps) (pairs ps) u is
  nested_within (keyword_map ps) u is = mapped_within _ (suc n) (frozen_pairs f ps) (pairs ps) u is
  nested_within («module» ps s) u is = mapped_within _ (suc n) (frozen_pairs f ps) (pairs ps) u is
  nested_within (namespace id place) u is = held (known.namespaces id place) u is
  nested_within undefined u is = flat_within (suc n) undefined u is
  nested_within silent_undefined u is = flat_within (suc n) silent_undefined u is
  nested_within none u is = flat_within (suc n) none u is
  nested_within (truth b) u is = flat_within (suc n) (truth b) u is
  nested_within (int z) u is = flat_within (suc n) (int z) u is
  nested_within (text s) u is = flat_within (suc n) (text s) u is
  nested_within (safe_text s) u is = flat_within (suc n) (safe_text s) u is
  nested_within (bytes s) u is = flat_within (suc n) (bytes s) u is
  nested_within (function id place) u is = flat_within (suc n) (function id place) u is
  nested_within (loop_record id place) u is = flat_within (suc n) (loop_record id place) u is
  nested_within (macro_record id place) u is = flat_within (suc n) (macro_record id place) u is

pub inner_within : (known : Known) (n : ℕ) → Within n (inner_frozen known n)
inner_within known zero = flat_within zero
inner_within known (suc n) = nested_within known n (inner_frozen known n) (inner_within known n)

-- ---- a container that is made of frozen values

-- one that nests within the bound is never too deep
never_deep : {T : Type 0} (g : T → Val) (inside : T) (answer : Result T Fault) (given : Result Val (List ErrorKind)) → answer ≡ Ok inside
    → depth (g inside) ≤ 500 → IfOk given (λ v. v ≡ g inside) → IfErr given (TooDeep (g inside)) → Gives given (mapped g answer)
never_deep g inside answer (Ok v) is within made refused = rw (is, made) refl
never_deep g inside answer (Err kinds) is within made (inl memory) = inl memory
never_deep g inside answer (Err kinds) is within made (inr deep) = absurd (omega (arith, deep.1, within))

pub vals_made : (g : List Val → Val) → ((us : List Val) → depth (g us) ≡ vals_depth (vals_of us) + 1) → (known : Known) (n : ℕ) (vs : Vals) (us : List Val)
    (given : Result Val (List ErrorKind)) → n < 500 → frozen_vals (inner_frozen known n) vs ≡ Ok us → IfOk given (λ v. v ≡ g us)
    → IfErr given (TooDeep (g us)) → Gives given (mapped g (frozen_vals (inner_frozen known n) vs))
vals_made g levels known n vs us given low is made refused =
    never_deep g us (frozen_vals (inner_frozen known n) vs) given is
    (omega (arith, low, levels us, vals_within n (inner_frozen known n) (inner_within known n) vs us is)) made refused

pub pairs_made : (g : List (Val × Val) → Val) → ((us : List (Val × Val)) → depth (g us) ≡ pairs_depth (collected us) + 1)
    → (known : Known) (n : ℕ) (ps : Pairs) (us : List (Val × Val)) (given : Result Val (List ErrorKind)) → n < 500
    → frozen_pairs (inner_frozen known n) ps ≡ Ok us → IfOk given (λ v. v ≡ g us)
    → IfErr given (TooDeep (g us)) → Gives given (mapped g (frozen_pairs (inner_frozen known n) ps))
pairs_made g levels known n ps us given low is made refused =
    never_deep g us (frozen_pairs (inner_frozen known n) ps) given is
    (omega (arith, low, levels us, collected_within n us (pairs_within n (inner_frozen known n) (inner_within known n) ps us is))) made refused

-- where values may nest further
pub inner_frozen-below : (known : Known) (n : ℕ) (v : Val) → (n ≡ 0 → ⊥) → inner_frozen known n v ≡ nested_frozen known (inner_frozen known (n - 1)) v
inner_frozen-below known zero v some = absurd (some refl)
inner_frozen-below known (suc n) v some = let e : n ≡ suc n - 1 = omega arith in ap (λ (m : ℕ). nested_frozen known (inner_frozen known m) v) e
