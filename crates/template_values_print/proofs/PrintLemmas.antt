-- Lemmas on values that are printed one behind the other.
use Rattle.std.proofs.Common.{◌≡◌, ℕ, zero, suc, ◌-◌, ◌<◌, ◌≤◌, List, [], ◌∷◌, length, drop, get_or, refl, sym, ap, arith, Result, Ok, codes, lit<}
use Rattle.std.specs.Str.{IsUtf8}
use Rattle.std.proofs.lemmas.Str.{IsUtf8-append}
use Rattle.template_values_model.specs.Fault.{Fault}
use Rattle.template_values_model.specs.Val.{Val, Vals, Pairs, vals_of, no_vals, vals_more, no_pairs, pairs_more}
use Rattle.template_values_core.specs.Maps.{pairs_of}
use Rattle.template_values_core.specs.Shape.{pairs_in}
use Rattle.template_values_core.specs.declared.value.Entry.{Entry}
use Rattle.template_values_forms.specs.Answers.{joined}
use Rattle.template_values_forms.specs.Known.{Known}
use Rattle.template_values_forms.specs.Printed.{inner_text, nested_text, pair_text, pairs_text, tuple_end, vals_text}
use Rattle.template_values_print.proofs.PieceLemmas.{IsUtf8-one}

pub comma_is_text : IsUtf8 (codes ", ")
comma_is_text = IsUtf8-append (44 ∷ []) (32 ∷ []) (IsUtf8-one 44 (lit< tt)) (IsUtf8-one 32 (lit< tt))

-- where values may nest further
pub inner_text-below : (known : Known) (n : ℕ) (v : Val) → (n ≡ 0 → ⊥) → inner_text known n v ≡ nested_text known (inner_text known (n - 1)) v
inner_text-below known zero v some = absurd (some refl)
inner_text-below known (suc n) v some = let e : n ≡ suc n - 1 = omega arith in ap (λ (m : ℕ). nested_text known (inner_text known m) v) e

pub vals_of-drop : (vs : List Val) (i j : ℕ) (v : Val) → j ≡ suc i → i < length vs → v ≡ get_or vs i v → vals_of (drop i vs) ≡ vals_more v (vals_of (drop j vs))
vals_of-drop vs i j v e h is = rw e (at_suc vs i v h is)
  where
    at_suc : (vs : List Val) (i : ℕ) (v : Val) → i < length vs → v ≡ get_or vs i v → vals_of (drop i vs) ≡ vals_more v (vals_of (drop (suc i) vs))
    at_suc [] i v h is = absurd (omega (arith, h))
    at_suc (w ∷ vs) zero v h is = ap (λ (x : Val). vals_more x (vals_of vs)) (sym is)
    at_suc (w ∷ vs) (suc i) v h is = at_suc vs i v (omega (arith, h)) is

pub pairs_of-drop : (es : List Entry) (i j : ℕ) (e : Entry) → j ≡ suc i → i < length es → e ≡ get_or es i e → pairs_of (pairs_in (drop i es)) ≡ pairs_more e.key e.value (pairs_of (pairs_in (drop j es)))
pairs_of-drop es i j e is_next h is = rw is_next (at_suc es i e h is)
  where
    at_suc : (es : List Entry) (i : ℕ) (e : Entry) → i < length es → e ≡ get_or es i e → pairs_of (pairs_in (drop i es)) ≡ pairs_more e.key e.value (pairs_of (pairs_in (drop (suc i) es)))
    at_suc [] i e h is = absurd (omega (arith, h))
    at_suc (f ∷ es) zero e h is = ap (λ (x : Entry). pairs_more x.key x.value (pairs_of (pairs_in es))) (sym is)
    at_suc (f ∷ es) (suc i) e h is = at_suc es i e (omega (arith, h)) is

pub vals_none : (vs : List Val) (i : ℕ) → length vs ≤ i → vals_of (drop i vs) ≡ no_vals
vals_none [] zero h = refl
vals_none [] (suc i) h = refl
vals_none (v ∷ vs) zero h = absurd (omega (arith, h))
vals_none (v ∷ vs) (suc i) h = vals_none vs i (omega (arith, h))

pub pairs_none : (es : List Entry) (i : ℕ) → length es ≤ i → pairs_of (pairs_in (drop i es)) ≡ no_pairs
pairs_none [] zero h = refl
pairs_none [] (suc i) h = refl
pairs_none (e ∷ es) zero h = absurd (omega (arith, h))
pairs_none (e ∷ es) (suc i) h = pairs_none es i (omega (arith, h))

pub tuple_end-one : (vs : List Val) → length vs ≡ 1 → tuple_end (vals_of vs) ≡ codes ",)"
tuple_end-one [] h = absurd (omega (arith, h))
tuple_end-one (v ∷ []) h = refl
tuple_end-one (v ∷ w ∷ vs) h = absurd (omega (arith, h))

pub tuple_end-other : (vs : List Val) → (length vs ≡ 1 → ⊥) → tuple_end (vals_of vs) ≡ codes ")"
tuple_end-other [] h = refl
tuple_end-other (v ∷ []) h = absurd (h refl)
tuple_end-other (v ∷ w ∷ vs) h = refl

-- the text of the values that are left, from the first of them
pub vals_text-next : (before : List ℕ) (f : Val → Result (List ℕ) Fault) (vs : List Val) (i j : ℕ) (v : Val)
    → j ≡ suc i → i < length vs → v ≡ get_or vs i v
    → vals_text before f (vals_of (drop i vs)) ≡ joined (joined (Ok before) (f v)) (vals_text (codes ", ") f (vals_of (drop j vs)))
vals_text-next before f vs i j v e h is = ap (λ (x : Vals). vals_text before f x) (vals_of-drop vs i j v e h is)

pub pairs_text-next : (before : List ℕ) (f : Val → Result (List ℕ) Fault) (es : List Entry) (i j : ℕ) (e : Entry)
    → j ≡ suc i → i < length es → e ≡ get_or es i e
    → pairs_text before f (pairs_of (pairs_in (drop i es))) ≡ joined (joined (Ok before) (pair_text f e.key e.value)) (pairs_text (codes ", ") f (pairs_of (pairs_in (drop j es))))
pairs_text-next before f es i j e is_next h is = ap (λ (x : Pairs). pairs_text before f x) (pairs_of-drop es i j e is_next h is)

pub ruleset tuple_ends = (tuple_end-one, tuple_end-other)
