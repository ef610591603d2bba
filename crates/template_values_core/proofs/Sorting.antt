-- To put pairs in turn is to sort them stably by their keys, and then to merge neighbours with equal keys.
use Rattle.std.proofs.Common.{◌≡◌, ◌∙◌, ℕ, ◌+◌, sym, ap, subst, refl, List, [], ◌∷◌, get_or, Bool, true, false, cond, not, suc, Less, Equal, Greater, arith}
use Rattle.std.specs.Prelude.{None, if◌then◌else◌, ◌&&◌}
use Rattle.std.specs.Bool.{MatchBool}
use Rattle.std.specs.declared.cmp.Ordering.{Ordering}
use Rattle.std.specs.Ordering.{is_eq, is_lt, match_ordering, ordering_reverse}
use Rattle.std.specs.List.{filter}
use Rattle.std.specs.List.Retain.{IsDeduped, DedupsFrom}
use Rattle.std.specs.List.Sorted.{IsSortedBy, IsSortedByClosure, IsStableBy, IsStableByClosure, ties}
use Rattle.std.specs.Fn.{Called, ComparesAs}
use Rattle.std.specs.BTreeMap.{insert_entry}
use Rattle.std.specs.Cmp.{IsStrictWeakOrder, alike_right, tied_itself}
use Rattle.std.proofs.lemmas.Fn.{always_returns_same}
use Rattle.std.proofs.lemmas.List.Sorted.{ranks_by}
use denote.Param.Members.{Mut}
use denote.Ref.{Bor}
use Rattle.template_values_model.specs.Val.{Val}
use Rattle.template_values_core.specs.Kept.{IsRising}
use Rattle.template_values_core.specs.Maps.{put_all, merged, merged_after}
use Rattle.template_values_core.specs.Order.{val_cmp, val_total}
use Rattle.template_values_core.specs.Shape.{pairs_in}
use Rattle.template_values_core.specs.declared.value.Entry.{Entry}
use Rattle.template_values_core.proofs.Pairing.{found, found-put_all, gathered, has_key, same_found}
use Rattle.template_values_core.proofs.Rising.{Above, Rises, rises-put_all, rises_from_sorted, sorted_from_rises, turned}

-- the test that the sort goes by
abbrev pub goes_before : Entry → Entry → Bool
goes_before d e = is_lt (val_cmp d.key e.key)

-- ---- the sort

ties_by : (o : Ordering) → (not (is_lt (ordering_reverse o)) && not (is_lt o)) ≡ is_eq o
ties_by Less = refl
ties_by Equal = refl
ties_by Greater = refl

ties_has_key : (q : Val) (e : Entry) → ties goes_before (record { key = q; value = q }) e ≡ has_key q (e.key, e.value)
ties_has_key q e =
    ap (λ (o : Ordering). not (is_lt o) && not (is_lt (val_cmp e.key q))) (val_total.antisymm q e.key) ∙ ties_by (val_cmp e.key q)

pairs_in-filter : (q : Val) (es : List Entry) → pairs_in (filter (ties goes_before (record { key = q; value = q })) es)
    ≡ filter (has_key q) (pairs_in es)
pairs_in-filter q [] = refl
pairs_in-filter q (e ∷ es) = by (pairs_in-filter q es) (ties goes_before (record { key = q; value = q }) e) (has_key q (e.key, e.value))
    (ties_has_key q e)
  where
    by : pairs_in (filter (ties goes_before (record { key = q; value = q })) es) ≡ filter (has_key q) (pairs_in es) → (b c : Bool) → b ≡ c
        → pairs_in (cond b (e ∷ filter (ties goes_before (record { key = q; value = q })) es)
        (filter (ties goes_before (record { key = q; value = q })) es))
        ≡ cond c ((e.key, e.value) ∷ filter (has_key q) (pairs_in es)) (filter (has_key q) (pairs_in es))
    by rest true true h = ap (λ (ps : List (Val × Val)). (e.key, e.value) ∷ ps) rest
    by rest false false h = rest
    by rest true false h = absurd (cc)
    by rest false true h = absurd (cc)

-- a stable sort changes nothing of what is put
put_all-sorted : (es fs : List Entry) → IsStableBy goes_before es fs → put_all [] (pairs_in fs) ≡ put_all [] (pairs_in es)
put_all-sorted es fs stable =
    same_found (put_all [] (pairs_in fs)) (put_all [] (pairs_in es)) (rises-put_all (pairs_in fs) [] tt)
    (rises-put_all (pairs_in es) [] tt) same
  where
    alike : (q : Val) → filter (has_key q) (pairs_in fs) ≡ filter (has_key q) (pairs_in es)
    alike q = sym (pairs_in-filter q fs) ∙ ap pairs_in (stable (record { key = q; value = q })) ∙ pairs_in-filter q es

    same : (q : Val) → found q (put_all [] (pairs_in fs)) ≡ found q (put_all [] (pairs_in es))
    same q =
        found-put_all q (pairs_in fs) [] tt ∙ ap (gathered None) (alike q) ∙ sym (found-put_all q (pairs_in es) [] tt)

-- ---- the merge of neighbours

-- no key is below the one before it, and the first is not below k
abbrev Climbs : Val → List (Val × Val) → Type 0
Climbs k [] = Unit {0}
Climbs k (p ∷ ps) = (is_lt (val_cmp p.0 k) ≡ false) × Climbs p.0 ps

climbs_alike : (j k : Val) → val_cmp j k ≡ Equal → (ps : List (Val × Val)) → Climbs j ps → Climbs k ps
climbs_alike j k h [] up = tt
climbs_alike j k h (p ∷ ps) up = (ap is_lt (sym (alike_right val_total j k p.0 h)) ∙ up.0, up.1)

below_both : (j k l : Val) → val_cmp j k ≡ Less → is_lt (val_cmp l k) ≡ false → val_cmp j l ≡ Less
below_both j k l h up = by (val_cmp k l) refl
  where
    by : (o : Ordering) → val_cmp k l ≡ o → val_cmp j l ≡ Less
    by Less is = val_total.trans j k l h is
    by Equal is = sym (alike_right val_total k l j is) ∙ h
    by Greater is = let no : is_lt Less ≡ false = ap is_lt (sym (turned k l Greater is)) ∙ up in absurd (cc)

-- what is put behind a lower key
put_all-behind : (p : Val × Val) (k : Val) (ps kept : List (Val × Val)) → val_cmp p.0 k ≡ Less → Climbs k ps → put_all (p ∷ kept) ps
    ≡ p ∷ put_all kept ps
put_all-behind p k [] kept h up = refl
put_all-behind p k (q ∷ ps) kept h up =
    let below : val_cmp p.0 q.0 ≡ Less = below_both p.0 k q.0 h up.0 in
    ap (λ (o : Ordering). put_all (match_ordering o (q ∷ p ∷ kept) ((p.0, q.1) ∷ kept) (p ∷ insert_entry val_cmp kept q.0 q.1)) ps)
    (turned p.0 q.0 Less below)
    ∙ put_all-behind p q.0 ps (insert_entry val_cmp kept q.0 q.1) below up.1

put_all-merged_after : (p : Val × Val) (ps : List (Val × Val)) → Climbs p.0 ps → put_all (p ∷ []) ps ≡ merged_after p ps
put_all-merged_after p [] up = refl
put_all-merged_after p (q ∷ ps) up = by (λ r. put_all-merged_after r ps) (val_cmp q.0 p.0) refl up.0
  where
    by : ((r : Val × Val) → Climbs r.0 ps → put_all (r ∷ []) ps ≡ merged_after r ps) → (o : Ordering) → val_cmp q.0 p.0 ≡ o → is_lt o
        ≡ false → put_all (match_ordering o (q ∷ p ∷ []) ((p.0, q.1) ∷ []) (p ∷ q ∷ [])) ps
        ≡ (if is_eq o then merged_after (p.0, q.1) ps else p ∷ merged_after q ps)
    by rest Less is low = absurd (cc)
    by rest Equal is low = rest (p.0, q.1) (climbs_alike q.0 p.0 is ps up.1)
    by rest Greater is low =
        put_all-behind p q.0 ps (q ∷ []) (turned q.0 p.0 Greater is) up.1
        ∙ ap (λ (rs : List (Val × Val)). p ∷ rs) (rest q up.1)

climbs_above : (k : Val) (ps : List (Val × Val)) → Above k ps → Rises ps → Climbs k ps
climbs_above k [] above h = tt
climbs_above k (p ∷ ps) above h = (ap is_lt (turned k p.0 Less above.0), climbs_above p.0 ps h.0 h.1)

-- pairs whose keys rise are put as they stand
put_all-rising : (ps : List (Val × Val)) → Rises ps → put_all [] ps ≡ ps
put_all-rising [] h = refl
put_all-rising (p ∷ []) h = refl
put_all-rising (p ∷ q ∷ ps) h =
    put_all-behind p q.0 (q ∷ ps) [] h.0.0 (ap is_lt (tied_itself val_total q.0), climbs_above q.0 ps h.1.0 h.1.1)
    ∙ ap (λ (rs : List (Val × Val)). p ∷ rs) (put_all-rising (q ∷ ps) h.1)

pub collected-rising : (es : List Entry) → IsRising es → put_all [] (pairs_in es) ≡ pairs_in es
collected-rising es h = put_all-rising (pairs_in es) (rises_from_sorted (pairs_in es) h)

pub ruleset as_given = (collected-rising)

climbs_sorted : (e : Entry) (es : List Entry) → IsSortedBy goes_before (e ∷ es) → Climbs e.key (pairs_in es)
climbs_sorted e [] h = tt
climbs_sorted e (f ∷ es) h =
    (h 0 e (omega arith) (omega arith), climbs_sorted f es later)
  where
    later : IsSortedBy goes_before (f ∷ es)
    later k d low lt =
        let on : suc k + 1 ≡ suc (k + 1) = omega arith in
        subst (λ (j : ℕ). goes_before (get_or (e ∷ f ∷ es) j d) (get_or (e ∷ f ∷ es) (suc k) d) ≡ false) on
        (h (suc k) d (omega arith) (omega (arith, lt)))

put_all-merged : (es : List Entry) → IsSortedBy goes_before es → put_all [] (pairs_in es) ≡ merged (pairs_in es)
put_all-merged [] h = refl
put_all-merged (e ∷ es) h = put_all-merged_after (e.key, e.value) (pairs_in es) (climbs_sorted e es h)

-- what a stable sort by a closure that compares the keys, and then the merge, leave
pub merged-sort_by : {F : Type 0} {g : Mut F (Bor Entry × (Bor Entry × Unit {0})) Ordering} {f : F} (es fs : List Entry)
    → IsStableByClosure g f es fs → IsSortedByClosure g f fs
    → ((a : Bor Entry × (Bor Entry × Unit {0})) (r : Ordering) (f' : F) → Called g f a r f' → (r ≡ val_cmp a.0.now.key a.1.0.now.key)
    × (f' ≡ f)) → merged (pairs_in fs) ≡ put_all [] (pairs_in es)
merged-sort_by {g = g} {f = f} es fs stable sorted calls =
    sym (put_all-merged fs (sorted goes_before ranks answers)) ∙ put_all-sorted es fs (stable goes_before ranks answers)
  where
    ranks : IsStrictWeakOrder goes_before
    ranks = ranks_by val_total (λ (e : Entry). e.key)

    answers : ComparesAs g goes_before f
    answers =
        always_returns_same g (λ a r. is_lt r ≡ goes_before a.0.now a.1.0.now) f
        (λ a r f' k. (ap is_lt (calls a r f' k).0, (calls a r f' k).1))

pub rising-put_all : (es : List Entry) (given : List (Val × Val)) → pairs_in es ≡ put_all [] given → IsRising es
rising-put_all es given h = rw h (sorted_from_rises (put_all [] given) (rises-put_all given [] tt))

-- a call that is shown a later entry x beside the one kept, k
pub record Merges (x k : Entry) (b : Bool) (x' k' : Entry) : Type 0 where
  pub test : b ≡ is_eq (val_cmp x.key k.key)
  pub left : MatchBool b ((k'.key ≡ k.key) × (k'.value ≡ x.value)) ((x' ≡ x) × (k' ≡ k))

module _ {S : Type 0} (R : S → Entry → Entry → Bool → S → Entry → Entry → Type 0)
    (calls : (s : S) (x k : Entry) (b : Bool) (t : S) (x' k' : Entry) → R s x k b t x' k' → Merges x k b x' k') where
  merged_from : (s : S) (k : Entry) (xs ys : List Entry) → DedupsFrom R s k xs ys → pairs_in ys
      ≡ merged_after (k.key, k.value) (pairs_in xs)
  merged_from s k [] ys told = ap pairs_in told
  merged_from s k (x ∷ xs) ys (b, t, x', k', r, rest) = by (λ u e zs. merged_from u e xs zs) b (calls s x k b t x' k' r) rest
    where
      by : ((u : S) (e : Entry) (zs : List Entry) → DedupsFrom R u e xs zs → pairs_in zs ≡ merged_after (e.key, e.value) (pairs_in xs))
          → (b : Bool) → Merges x k b x' k' → MatchBool b (DedupsFrom R t k' xs ys) ((zs : List Entry) × DedupsFrom R t x' xs zs
          × (ys ≡ k' ∷ zs)) → pairs_in ys ≡ merged_after (k.key, k.value) ((x.key, x.value) ∷ pairs_in xs)
      by others true m told =
          others t k' ys told
          ∙ (λ i. merged_after (m.left.0 i, m.left.1 i) (pairs_in xs))
          ∙ ap (λ (c : Bool). if c then merged_after (k.key, x.value) (pairs_in xs) else (k.key, k.value) ∷ merged_after (x.key, x.value)
          (pairs_in xs)) m.test
      by others false m (zs, told, is) =
          ap pairs_in is
          ∙ (λ i. ((m.left.1 i).key, (m.left.1 i).value) ∷ others t x' zs told i)
          ∙ (λ i. (k.key, k.value) ∷ merged_after ((m.left.0 i).key, (m.left.0 i).value) (pairs_in xs))
          ∙ ap (λ (c : Bool). if c then merged_after (k.key, x.value) (pairs_in xs) else (k.key, k.value) ∷ merged_after (x.key, x.value)
          (pairs_in xs)) m.test

  pub merged_all : (s : S) (xs ys : List Entry) → IsDeduped R s xs ys → pairs_in ys ≡ merged (pairs_in xs)
  merged_all s [] ys h = ap pairs_in h.told
  merged_all s (x ∷ xs) ys h = merged_from s x xs ys h.told
