-- What halving finds under a text where the keys rise.
use Rattle.std.proofs.Common.{◌≡◌, ℕ, zero, suc, ◌+◌, ◌<◌, ◌∙◌, sym, ap, refl, List, [], ◌∷◌, length, get_or, Bool, true, false, Less, Equal, Greater, arith}
use Rattle.std.specs.Prelude.{Option, None, Some, if◌then◌else◌, nat_lt}
use borrow.Author.Tests.{ltb-true, ltb-false}
use Rattle.std.specs.List.{AllByRecursion}
use Rattle.std.specs.List.Sorted.{IsNonDecreasingBy, IsSortedBy, IsPartitionPoint}
use Rattle.std.specs.Map.{keys_of}
use Rattle.std.specs.Ordering.{is_eq, is_lt, ordering_index, ordering_reverse}
use Rattle.std.specs.Cmp.{alike_right}
use Rattle.std.proofs.lemmas.List.Sorted.{searchable_from_sorted}
use Rattle.std.proofs.lemmas.Map.Keys.{sorted_head, sorted_tail}
use Rattle.template_values_model.specs.Val.{Val}
use Rattle.template_values_core.specs.Kept.{IsRising}
use Rattle.template_values_core.specs.Maps.{pairs_of, entry_under}
use Rattle.template_values_core.specs.Order.{val_cmp, val_total}
use Rattle.template_values_core.specs.Shape.{pairs_in}
use Rattle.template_values_core.specs.declared.value.Entry.{Entry}

-- a fact of every key holds of each one
at_key : (P : Val → Type 0) (es : List Entry) (i : ℕ) (d : Entry) → AllByRecursion P (keys_of (pairs_in es)) → i < length es
    → P (get_or es i d).key
at_key P [] i d all h = absurd (omega (arith, h))
at_key P (e ∷ es) zero d all h = all.0
at_key P (e ∷ es) (suc i) d all h = at_key P es i d all.1 (omega (arith, h))

-- an earlier key is below a later one
pub rising_at : (es : List Entry) (i j : ℕ) (d : Entry) → IsRising es → i < j → j < length es
    → val_cmp (get_or es i d).key (get_or es j d).key ≡ Less
rising_at [] i j d rising h k = absurd (omega (arith, k))
rising_at (e ∷ es) i zero d rising h k = absurd (omega (arith, h))
rising_at (e ∷ es) zero (suc j) d rising h k = at_key (λ y. val_cmp e.key y ≡ Less) es j d
    (sorted_head val_cmp e.key (keys_of (pairs_in es)) rising) (omega (arith, k))
rising_at (e ∷ es) (suc i) (suc j) d rising h k = rising_at es i j d (sorted_tail val_cmp e.key (keys_of (pairs_in es)) rising)
    (omega (arith, h)) (omega (arith, k))

module _ (q : Val) where
  skip : (b : Bool) (v : Val) (o : Option Val) → b ≡ false → (if b then Some v else o) ≡ o
  skip true v o e = absurd (cc)
  skip false v o e = refl

  take_it : (b : Bool) (v : Val) (o : Option Val) → b ≡ true → (if b then Some v else o) ≡ Some v
  take_it true v o e = refl
  take_it false v o e = absurd (cc)

  -- an equal key's value is the one under the key
  pub entry_under-found : (es : List Entry) (i : ℕ) (d : Entry) → IsRising es → i < length es → val_cmp (get_or es i d).key q ≡ Equal
      → entry_under q (pairs_of (pairs_in es)) ≡ Some (get_or es i d).value
  entry_under-found [] i d rising h is = absurd (omega (arith, h))
  entry_under-found (e ∷ es) zero d rising h is =
      take_it (is_eq (val_cmp e.key q)) e.value (entry_under q (pairs_of (pairs_in es))) (ap is_eq is)
  entry_under-found (e ∷ es) (suc i) d rising h is =
      let below : val_cmp e.key (get_or es i d).key ≡ Less = rising_at (e ∷ es) 0 (suc i) d rising (omega arith) h in
      let less : val_cmp e.key q ≡ Less = sym (alike_right val_total (get_or es i d).key q e.key is) ∙ below in
      skip (is_eq (val_cmp e.key q)) e.value (entry_under q (pairs_of (pairs_in es))) (ap is_eq less)
      ∙ entry_under-found es i d (sorted_tail val_cmp e.key (keys_of (pairs_in es)) rising) (omega (arith, h)) is

  entry_under-absent : (es : List Entry) → ((k : ℕ) (d : Entry) → k < length es → is_eq (val_cmp (get_or es k d).key q) ≡ false)
      → entry_under q (pairs_of (pairs_in es)) ≡ None
  entry_under-absent [] none = refl
  entry_under-absent (e ∷ es) none =
      skip (is_eq (val_cmp e.key q)) e.value (entry_under q (pairs_of (pairs_in es))) (none 0 e (omega arith))
      ∙ entry_under-absent es (λ k d h. none (suc k) d (omega (arith, h)))

  -- no key is equal where the answers go from less to greater
  pub entry_under-parted : (es : List Entry) (i : ℕ) → IsPartitionPoint (λ (y : Entry). val_cmp y.key q ≡ Less)
      (λ (y : Entry). val_cmp y.key q ≡ Greater) es i → entry_under q (pairs_of (pairs_in es)) ≡ None
  entry_under-parted es i parted = entry_under-absent es (λ k d h. either k d h (nat_lt k i) refl)
    where
      either : (k : ℕ) (d : Entry) → k < length es → (b : Bool) → nat_lt k i ≡ b → is_eq (val_cmp (get_or es k d).key q) ≡ false
      either k d h true is = ap is_eq (parted.0 k d (omega arith) (ltb-true k i is))
      either k d h false is = ap is_eq (parted.1 k d (ltb-false k i is) h)

  not_below : (k j : Val) → val_cmp k j ≡ Less → is_lt (val_cmp j k) ≡ false
  not_below k j e = ap is_lt (val_total.antisymm j k ∙ ap ordering_reverse e)

  pub rising_searchable : (es : List Entry) → IsRising es → IsNonDecreasingBy (λ (y : Entry). ordering_index (val_cmp y.key q)) es
  rising_searchable es rising = searchable_from_sorted val_total (λ (e : Entry). e.key) es q sorted
    where
      sorted : IsSortedBy (λ (a b : Entry). is_lt (val_cmp a.key b.key)) es
      sorted k d low h = not_below (get_or es k d).key (get_or es (k + 1) d).key
          (rising_at es k (k + 1) d rising (omega arith) (omega arith))
