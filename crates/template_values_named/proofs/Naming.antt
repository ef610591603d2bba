-- What a name has in a map of names, and in the list that a contract sees of it.
use Rattle.std.proofs.Common.{◌≡◌, ◌∙◌, ap, sym, refl, Bool, true, false, cond, ℕ, List, [], ◌∷◌, ◌++◌, Option, Some, Result, Ok, Err, OnErr, bytes_eq, string_bytes, Less, Equal, Greater}
use Rattle.std.specs.BTreeMap as tree
use Rattle.std.specs.BTreeMap.{BTreeMap, get_by_text, insert_entry, is_at}
use Rattle.std.specs.Cmp.Lexicographic.{slice_cmp}
use Rattle.std.specs.Iterator.{Yields}
use Rattle.std.specs.Map.{lookup, remove_entry}
use Rattle.std.specs.Ordering.{nat_cmp, is_eq, match_ordering}
use Rattle.std.specs.declared.cmp.Ordering.{Ordering}
use Rattle.std.specs.Prelude.{String}
use Rattle.std.specs.String.{string_cmp}
use Rattle.std.specs.Vec.Iter.{into_iter_items, into_iter_steps}
use Rattle.std.specs.declared.alloc.Global.{Global}
use Rattle.std.specs.declared.vec.IntoIter.{IntoIter}
use Rattle.std.proofs.lemmas.List.{map-append}
use Rattle.std.proofs.lemmas.Map.Text.{btree_map_updates_text, is_eq-slice_cmp}
use Rattle.std.proofs.lemmas.Slice.Eq.{bytes_eq-Decides}
use Rattle.template_values_model.specs.Val.{Val}
use Rattle.template_values_named.specs.Named.{PutsSome, local_at, named_in, pairs_named, with_named, with_all_named}

bytes_eq-turned : (xs ys : List ℕ) → bytes_eq xs ys ≡ bytes_eq ys xs
bytes_eq-turned xs ys = by (bytes_eq xs ys) (bytes_eq ys xs) refl refl
  where
    by : (b c : Bool) → bytes_eq xs ys ≡ b → bytes_eq ys xs ≡ c → bytes_eq xs ys ≡ bytes_eq ys xs
    by true c d e = d ∙ sym ((bytes_eq-Decides ys xs).1 (sym ((bytes_eq-Decides xs ys).0 d)))
    by false true d e = (bytes_eq-Decides xs ys).1 (sym ((bytes_eq-Decides ys xs).0 e)) ∙ sym e
    by false false d e = d ∙ sym e

found_among : (es : List (String Global × Val)) (q : List ℕ) → lookup (is_at (λ k. slice_cmp nat_cmp q (string_bytes k))) es ≡ local_at q (pairs_named es)
found_among [] q = refl
found_among (e ∷ es) q =
    let test : is_eq (slice_cmp nat_cmp q (string_bytes e.0)) ≡ bytes_eq (string_bytes e.0) q =
    is_eq-slice_cmp q (string_bytes e.0) ∙ bytes_eq-turned q (string_bytes e.0) in
    let later = found_among es q in
    λ i. cond (test i) (Some e.1) (later i)

-- a name has in the list what it has in the map
pub found_in : (m : BTreeMap (String Global) Val) (q : List ℕ) → get_by_text m q ≡ local_at q (named_in m)
found_in m q = found_among m.entries q

-- what changes in the map changes in the list
pub found_after : (name : List ℕ) (m n : BTreeMap (String Global) Val) (w : Option Val)
    → tree.UpdatesBy string_cmp (λ k. slice_cmp nat_cmp name (string_bytes k)) m n w → (q : List ℕ)
    → local_at q (named_in n) ≡ cond (bytes_eq name q) w (local_at q (named_in m))
found_after name m n w updates q =
    sym (found_in n q) ∙ btree_map_updates_text name m n w updates q ∙ ap (cond (bytes_eq name q) w) (found_in m q)

-- a name that is put stands in the list at its place
pub put_among : (es : List (String Global × Val)) (k : String Global) (v : Val)
    → pairs_named (insert_entry string_cmp es k v) ≡ insert_entry (slice_cmp nat_cmp) (pairs_named es) (string_bytes k) v
put_among [] k v = refl
put_among (e ∷ es) k v = by (string_cmp k e.0) (put_among es k v)
  where
    by : (o : Ordering) → pairs_named (insert_entry string_cmp es k v) ≡ insert_entry (slice_cmp nat_cmp) (pairs_named es) (string_bytes k) v
        → pairs_named (match_ordering o ((k, v) ∷ e ∷ es) ((e.0, v) ∷ es) (e ∷ insert_entry string_cmp es k v))
        ≡ match_ordering o ((string_bytes k, v) ∷ (string_bytes e.0, e.1) ∷ pairs_named es) ((string_bytes e.0, v) ∷ pairs_named es)
        ((string_bytes e.0, e.1) ∷ insert_entry (slice_cmp nat_cmp) (pairs_named es) (string_bytes k) v)
    by Less rest = refl
    by Equal rest = refl
    by Greater rest = ap (λ ls. (string_bytes e.0, e.1) ∷ ls) rest

-- and one that is removed goes from it
pub removed_among : (es : List (String Global × Val)) (q : List ℕ)
    → pairs_named (remove_entry (is_at (λ k. slice_cmp nat_cmp q (string_bytes k))) es) ≡ remove_entry (bytes_eq q) (pairs_named es)
removed_among [] q = refl
removed_among (e ∷ es) q =
    by (is_eq (slice_cmp nat_cmp q (string_bytes e.0))) (bytes_eq q (string_bytes e.0)) (is_eq-slice_cmp q (string_bytes e.0)) (removed_among es q)
  where
    by : (b c : Bool) → b ≡ c → pairs_named (remove_entry (is_at (λ k. slice_cmp nat_cmp q (string_bytes k))) es) ≡ remove_entry (bytes_eq q) (pairs_named es)
        → pairs_named (cond b es (e ∷ remove_entry (is_at (λ k. slice_cmp nat_cmp q (string_bytes k))) es))
        ≡ cond c (pairs_named es) ((string_bytes e.0, e.1) ∷ remove_entry (bytes_eq q) (pairs_named es))
    by true true same rest = refl
    by false false same rest = ap (λ ls. (string_bytes e.0, e.1) ∷ ls) rest
    by true false same rest = absurd (cc)
    by false true same rest = absurd (cc)

-- one name more has its value
pub all_next : (ys : List (String Global × Val)) (k : String Global) (v : Val) (named : List (List ℕ × Val))
    → with_all_named (pairs_named (ys ++ (k, v) ∷ [])) named ≡ with_named (string_bytes k) v (with_all_named (pairs_named ys) named)
all_next [] k v named = refl
all_next (y ∷ ys) k v named = all_next ys k v (with_named (string_bytes y.0) y.1 named)

-- what an iterator over the names has given comes first of what it had
given_first : (ys : List (String Global × Val)) (s t : IntoIter (String Global × Val) Global) → Yields into_iter_steps s ys t
    → into_iter_items s ≡ ys ++ into_iter_items t
given_first [] s t is = ap into_iter_items is
given_first (y ∷ ys) s t turns = turns.1.0 ∙ ap (λ es. y ∷ es) (given_first ys turns.0 t turns.2)

-- those that it has given have their values
pub some_put : (all ys : List (String Global × Val)) (s t : IntoIter (String Global × Val) Global) (before after : List (List ℕ × Val))
    → into_iter_items s ≡ all → Yields into_iter_steps s ys t → after ≡ with_all_named (pairs_named ys) before → PutsSome (pairs_named all) before after
some_put all ys s t before after start turns put = record {
  some = pairs_named ys;
  rest = pairs_named (into_iter_items t);
  all = ap pairs_named (sym start ∙ given_first ys s t turns) ∙ map-append (λ e. (string_bytes e.0, e.1)) ys (into_iter_items t);
  put = put;
}

pub on_err : {T E : Type 0} (P : Type 0) (r : Result T E) → P → OnErr r P
on_err P (Ok value) holds = tt
on_err P (Err error) holds = holds
