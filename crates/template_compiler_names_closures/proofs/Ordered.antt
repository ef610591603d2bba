-- A set of texts in the order of bytes is one list.
use Rattle.std.proofs.Common.{◌≡◌, ℕ, ◌||◌, List, [], ◌∷◌, String, map, string_bytes, refl, sym, ap, ◌∙◌}
use Rattle.std.specs.declared.cmp.Ordering.{Ordering}
use Rattle.std.specs.declared.cmp.Ordering.TheVariants.{Less, Equal, Greater}
use Rattle.std.specs.Ordering.{nat_cmp, is_eq, ordering_reverse, match_ordering}
use Rattle.std.specs.Cmp.Lexicographic.{slice_cmp}
use Rattle.std.specs.List.{list_any, AllByRecursion}
use Rattle.std.specs.List.Sorted.{IsStrictlySortedBy}
use Rattle.std.specs.BTreeSet.{BTreeSet, IsOrdered, contains_text, insert_key}
use Rattle.std.specs.String.{string_cmp}
use Rattle.std.proofs.lemmas.Cmp.{nat_list_cmp_total}
use Rattle.std.proofs.lemmas.Map.Lookups.{btree_set_from_contains, exact_bytes}
use Rattle.std.proofs.lemmas.Map.Text.{is_eq-slice_cmp}
use Rattle.template_compiler_names.specs.Enclosed.{in_order, is_listed}
use Rattle.template_compiler_names.proofs.Laws.{turned}

abbrev Text : Type 0
Text = List ℕ

text_cmp : Text → Text → Ordering
text_cmp a b = slice_cmp nat_cmp a b

-- a name that is put at its place keeps the order
below_put : (x k : Text) (ys : List Text) → AllByRecursion (λ y. slice_cmp nat_cmp x y ≡ Less) ys → slice_cmp nat_cmp x k ≡ Less
    → AllByRecursion (λ y. slice_cmp nat_cmp x y ≡ Less) (insert_key (slice_cmp nat_cmp) ys k)
below_put x k [] all less = (less, tt)
below_put x k (y ∷ ys) all less = by (slice_cmp nat_cmp k y) (below_put x k ys all.1 less) where
  by : (r : Ordering) → AllByRecursion (λ z. slice_cmp nat_cmp x z ≡ Less) (insert_key (slice_cmp nat_cmp) ys k)
      → AllByRecursion (λ z. slice_cmp nat_cmp x z ≡ Less) (match_ordering r (k ∷ y ∷ ys) (y ∷ ys) (y ∷ insert_key (slice_cmp nat_cmp) ys k))
  by Less h = (less, all)
  by Equal h = all
  by Greater h = (all.0, h)

below_all : (k y : Text) (ys : List Text) → slice_cmp nat_cmp k y ≡ Less → AllByRecursion (λ z. slice_cmp nat_cmp y z ≡ Less) ys
    → AllByRecursion (λ z. slice_cmp nat_cmp k z ≡ Less) ys
below_all k y [] less all = tt
below_all k y (z ∷ zs) less all = (nat_list_cmp_total.trans k y z less all.0, below_all k y zs less all.1)

put_sorted : (k : Text) (ys : List Text) → IsStrictlySortedBy (slice_cmp nat_cmp) ys → IsStrictlySortedBy (slice_cmp nat_cmp) (insert_key (slice_cmp nat_cmp) ys k)
unfolding IsStrictlySortedBy
put_sorted k [] sorted = (tt, tt)
put_sorted k (y ∷ ys) sorted = by (slice_cmp nat_cmp k y) refl (put_sorted k ys sorted.1) where
  by : (r : Ordering) → slice_cmp nat_cmp k y ≡ r → IsStrictlySortedBy (slice_cmp nat_cmp) (insert_key (slice_cmp nat_cmp) ys k)
      → IsStrictlySortedBy (slice_cmp nat_cmp) (match_ordering r (k ∷ y ∷ ys) (y ∷ ys) (y ∷ insert_key (slice_cmp nat_cmp) ys k))
  by Less is h = ((is, below_all k y ys is sorted.0), sorted)
  by Equal is h = sorted
  by Greater is h = (below_put y k ys sorted.0 (nat_list_cmp_total.antisymm y k ∙ ap (λ r. ordering_reverse r) is), h)

order_sorted : (xs : List Text) → IsStrictlySortedBy (slice_cmp nat_cmp) (in_order xs)
unfolding IsStrictlySortedBy
order_sorted [] = tt
order_sorted (x ∷ xs) = put_sorted x (in_order xs) (order_sorted xs)

-- the texts of a set
texts_below : {A : Type 0} (k : String A) (ks : List (String A)) → AllByRecursion (λ x. string_cmp k x ≡ Less) ks
    → AllByRecursion (λ x. slice_cmp nat_cmp (string_bytes k) x ≡ Less) (map string_bytes ks)
texts_below k [] all = tt
texts_below k (x ∷ xs) all = (all.0, texts_below k xs all.1)

texts_sorted : {A : Type 0} (ks : List (String A)) → IsStrictlySortedBy string_cmp ks → IsStrictlySortedBy (slice_cmp nat_cmp) (map string_bytes ks)
unfolding IsStrictlySortedBy
texts_sorted [] sorted = tt
texts_sorted (k ∷ ks) sorted = (texts_below k ks sorted.0, texts_sorted ks sorted.1)

in_texts : {A : Type 0} (q : Text) (ks : List (String A)) →
    list_any (λ k. is_eq (slice_cmp nat_cmp q k)) (map string_bytes ks) ≡ list_any (λ k. is_eq (slice_cmp nat_cmp q (string_bytes k))) ks
in_texts q [] = refl
in_texts q (k ∷ ks) = ap (λ b. is_eq (slice_cmp nat_cmp q (string_bytes k)) || b) (in_texts q ks)

in_list : (q : Text) (xs : List Text) → is_listed xs q ≡ list_any (λ k. is_eq (slice_cmp nat_cmp q k)) xs
in_list q [] = refl
in_list q (x ∷ xs) =
    ap (λ b. b || is_listed xs q) (turned x q ∙ sym (is_eq-slice_cmp q x)) ∙ ap (λ b. is_eq (slice_cmp nat_cmp q x) || b) (in_list q xs)

-- a set that has the names of a list in order has them as the list does
pub one_list : {A : Type 0} (set : BTreeSet (String A)) (xs : List Text) → IsOrdered string_cmp set
    → ((q : Text) → contains_text set q ≡ is_listed (in_order xs) q) → map string_bytes set.keys ≡ in_order xs
one_list set xs ordered same =
    btree_set_from_contains nat_list_cmp_total (record { keys = map string_bytes set.keys }) (record { keys = in_order xs })
    (texts_sorted set.keys ordered) (order_sorted xs) (λ q. in_texts q set.keys ∙ same q ∙ in_list q (in_order xs)) exact_bytes
