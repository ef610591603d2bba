-- Pairs whose keys rise, and that putting pairs in turn keeps them so.
use Rattle.std.proofs.Common.{◌≡◌, ◌∙◌, ap, refl, List, [], ◌∷◌, Less, Equal, Greater}
use Rattle.std.specs.declared.cmp.Ordering.{Ordering}
use Rattle.std.specs.List.{AllByRecursion}
use Rattle.std.specs.List.Sorted.{IsStrictlySortedBy}
use Rattle.std.specs.Map.{keys_of}
use Rattle.std.specs.Ordering.{ordering_reverse, match_ordering}
use Rattle.std.specs.BTreeMap.{insert_entry}
use Rattle.template_values_model.specs.Val.{Val}
use Rattle.template_values_core.specs.Maps.{put_all}
use Rattle.template_values_core.specs.Order.{val_cmp, val_total}

-- every key is above k
abbrev pub Above : Val → List (Val × Val) → Type 0
Above k ps = AllByRecursion (λ y. val_cmp k y ≡ Less) (keys_of ps)

-- every key is above those before it
abbrev pub Rises : List (Val × Val) → Type 0
Rises [] = Unit {0}
Rises (p ∷ ps) = Above p.0 ps × Rises ps

pub rises_from_sorted : (ps : List (Val × Val)) → IsStrictlySortedBy val_cmp (keys_of ps) → Rises ps
unfolding IsStrictlySortedBy
rises_from_sorted [] h = tt
rises_from_sorted (p ∷ ps) h = (h.0, rises_from_sorted ps h.1)

pub sorted_from_rises : (ps : List (Val × Val)) → Rises ps → IsStrictlySortedBy val_cmp (keys_of ps)
unfolding IsStrictlySortedBy
sorted_from_rises [] h = tt
sorted_from_rises (p ∷ ps) h = (h.0, sorted_from_rises ps h.1)

pub above_less : (j k : Val) → val_cmp j k ≡ Less → (ps : List (Val × Val)) → Above k ps → Above j ps
above_less j k h [] all = tt
above_less j k h (p ∷ ps) all = (val_total.trans j k p.0 h all.0, above_less j k h ps all.1)

pub above_equal : (j k : Val) → val_cmp j k ≡ Equal → (ps : List (Val × Val)) → Above k ps → Above j ps
above_equal j k h [] all = tt
above_equal j k h (p ∷ ps) all = (val_total.congr j k p.0 h ∙ all.0, above_equal j k h ps all.1)

pub turned : (j k : Val) (o : Ordering) → val_cmp j k ≡ o → val_cmp k j ≡ ordering_reverse o
turned j k o h = val_total.antisymm k j ∙ ap ordering_reverse h

module _ (k v : Val) where
  above-insert_entry : (j : Val) → val_cmp j k ≡ Less → (kept : List (Val × Val)) → Above j kept → Above j (insert_entry val_cmp kept k v)
  above-insert_entry j h [] all = (h, tt)
  above-insert_entry j h (e ∷ kept) all = by (above-insert_entry j h kept all.1) (val_cmp k e.0)
    where
      by : Above j (insert_entry val_cmp kept k v) → (o : Ordering)
          → Above j (match_ordering o ((k, v) ∷ e ∷ kept) ((e.0, v) ∷ kept) (e ∷ insert_entry val_cmp kept k v))
      by rest Less = (h, all)
      by rest Equal = all
      by rest Greater = (all.0, rest)

  pub rises-insert_entry : (kept : List (Val × Val)) → Rises kept → Rises (insert_entry val_cmp kept k v)
  rises-insert_entry [] h = (tt, tt)
  rises-insert_entry (e ∷ kept) h = by (rises-insert_entry kept h.1) (val_cmp k e.0) refl
    where
      by : Rises (insert_entry val_cmp kept k v) → (o : Ordering) → val_cmp k e.0 ≡ o
          → Rises (match_ordering o ((k, v) ∷ e ∷ kept) ((e.0, v) ∷ kept) (e ∷ insert_entry val_cmp kept k v))
      by rest Less is = ((is, above_less k e.0 is kept h.0), h)
      by rest Equal is = h
      by rest Greater is = (above-insert_entry e.0 (turned k e.0 Greater is) kept h.0, rest)

pub rises-put_all : (given kept : List (Val × Val)) → Rises kept → Rises (put_all kept given)
rises-put_all [] kept h = h
rises-put_all (p ∷ given) kept h =
    rises-put_all given (insert_entry val_cmp kept p.0 p.1) (rises-insert_entry p.0 p.1 kept h)
