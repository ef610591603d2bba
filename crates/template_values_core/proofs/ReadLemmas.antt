-- What is read of items and entries.
use Rattle.std.proofs.Common.{◌≡◌, ℕ, List, [], ◌∷◌, length, refl, ap, sym, suc, true, not, nat_eq}
use Rattle.std.proofs.Math.Dec.{eqb-suc-zero}
use Rattle.template_values_model.specs.Val.{Val, vals_of, items_of}
use Rattle.template_values_core.specs.Maps.{pairs_of}
use Rattle.template_values_core.specs.Reads.{has_items, has_pairs}
use Rattle.template_values_core.specs.Shape.{pairs_in}
use Rattle.template_values_core.specs.declared.value.Entry.{Entry}

pub items_of-vals_of : (vs : List Val) → items_of (vals_of vs) ≡ vs
items_of-vals_of [] = refl
items_of-vals_of (v ∷ vs) = ap (λ (ws : List Val). v ∷ ws) (items_of-vals_of vs)

positive : (n : ℕ) → true ≡ not (nat_eq (suc n) 0)
positive n = ap not (sym (eqb-suc-zero n))

pub has_items_is : (vs : List Val) → has_items (vals_of vs) ≡ not (nat_eq (length vs) 0)
has_items_is [] = refl
has_items_is (v ∷ vs) = positive (length vs)

pub has_pairs_is : (es : List Entry) → has_pairs (pairs_of (pairs_in es)) ≡ not (nat_eq (length es) 0)
has_pairs_is [] = refl
has_pairs_is (e ∷ es) = positive (length es)

pub ruleset reading = (items_of-vals_of, has_items_is, has_pairs_is)
