-- What becomes of entries where a value is put at the place of its key.
use Rattle.std.proofs.Common.{◌≡◌, ◌∙◌, ℕ, zero, suc, ◌+◌, ◌≤◌, List, [], ◌∷◌, get_or, set, Less, Equal, Greater, Ok, Err, ap, arith}
use Rattle.std.specs.declared.cmp.Ordering.{Ordering}
use Rattle.std.specs.List.{insert}
use Rattle.std.specs.Ordering.{match_ordering}
use Rattle.std.specs.BTreeMap.{insert_entry}
use Rattle.template_values_model.specs.Val.{Val}
use Rattle.template_values_core.specs.Order.{val_cmp}
use Rattle.template_values_core.specs.Shape.{pairs_in}
use Rattle.template_values_core.specs.declared.value.Entry.{Entry}
use Rattle.template_machine_tables.specs.Places.{place_from}

-- what is found from a place on does not stand in front of it
found_behind : (place : ℕ) (k : Val) (es : List (Val × Val)) (p : ℕ) → place_from place k es ≡ Ok p → place ≤ p
found_behind place k [] p found = absurd (cc)
found_behind place k (e ∷ es) p found = by (val_cmp k e.0) (found_behind (place + 1) k es p) found
  where
    by : (o : Ordering) → (place_from (place + 1) k es ≡ Ok p → place + 1 ≤ p)
        → match_ordering o (Err place) (Ok place) (place_from (place + 1) k es) ≡ Ok p → place ≤ p
    by Less rest found = absurd (cc)
    by Equal rest found = let same : place ≡ p = cc in omega arith
    by Greater rest found = let further : place + 1 ≤ p = rest found in omega arith

new_behind : (place : ℕ) (k : Val) (es : List (Val × Val)) (p : ℕ) → place_from place k es ≡ Err p → place ≤ p
new_behind place k [] p new = let same : place ≡ p = cc in omega arith
new_behind place k (e ∷ es) p new = by (val_cmp k e.0) (new_behind (place + 1) k es p) new
  where
    by : (o : Ordering) → (place_from (place + 1) k es ≡ Err p → place + 1 ≤ p)
        → match_ordering o (Err place) (Ok place) (place_from (place + 1) k es) ≡ Err p → place ≤ p
    by Less rest new = let same : place ≡ p = cc in omega arith
    by Equal rest new = absurd (cc)
    by Greater rest new = let further : place + 1 ≤ p = rest new in omega arith

-- the key that is there stays, and has the value
pub put_found : (place : ℕ) (k v : Val) (es : List Entry) (i p : ℕ) (e x : Entry) → place_from place k (pairs_in es) ≡ Ok p → p ≡ place + i
    → e ≡ get_or es i e → x.key ≡ e.key → x.value ≡ v → pairs_in (set es i x) ≡ insert_entry val_cmp (pairs_in es) k v
put_found place k v [] i p e x found at is key value = absurd (cc)
put_found place k v (y ∷ es) zero p e x found at is key value = by (val_cmp k y.key) found
  where
    by : (o : Ordering) → match_ordering o (Err place) (Ok place) (place_from (place + 1) k (pairs_in es)) ≡ Ok p
        → (x.key, x.value) ∷ pairs_in es
        ≡ match_ordering o ((k, v) ∷ (y.key, y.value) ∷ pairs_in es) ((y.key, v) ∷ pairs_in es)
        ((y.key, y.value) ∷ insert_entry val_cmp (pairs_in es) k v)
    by Less found = absurd (cc)
    by Equal found = λ j. ((key ∙ ap (λ (d : Entry). d.key) is) j, value j) ∷ pairs_in es
    by Greater found = let later : place + 1 ≤ p = found_behind (place + 1) k (pairs_in es) p found in absurd (omega arith)
put_found place k v (y ∷ es) (suc i) p e x found at is key value =
    by (val_cmp k y.key) (λ found. put_found (place + 1) k v es i p e x found (omega arith) is key value) found
  where
    by : (o : Ordering)
        → (place_from (place + 1) k (pairs_in es) ≡ Ok p → pairs_in (set es i x) ≡ insert_entry val_cmp (pairs_in es) k v)
        → match_ordering o (Err place) (Ok place) (place_from (place + 1) k (pairs_in es)) ≡ Ok p
        → (y.key, y.value) ∷ pairs_in (set es i x)
        ≡ match_ordering o ((k, v) ∷ (y.key, y.value) ∷ pairs_in es) ((y.key, v) ∷ pairs_in es)
        ((y.key, y.value) ∷ insert_entry val_cmp (pairs_in es) k v)
    by Less rest found = absurd (cc)
    by Equal rest found = let same : place ≡ p = cc in absurd (omega arith)
    by Greater rest found = ap (λ (ps : List (Val × Val)). (y.key, y.value) ∷ ps) (rest found)

-- a new one goes to its place in the order of keys
pub put_new : (place : ℕ) (k v : Val) (es : List Entry) (i p : ℕ) (x : Entry) → place_from place k (pairs_in es) ≡ Err p → p ≡ place + i
    → x.key ≡ k → x.value ≡ v → pairs_in (insert es i x) ≡ insert_entry val_cmp (pairs_in es) k v
put_new place k v [] zero p x new at key value = λ j. (key j, value j) ∷ []
put_new place k v [] (suc i) p x new at key value = let same : place ≡ p = cc in absurd (omega arith)
put_new place k v (y ∷ es) zero p x new at key value = by (val_cmp k y.key) new
  where
    by : (o : Ordering) → match_ordering o (Err place) (Ok place) (place_from (place + 1) k (pairs_in es)) ≡ Err p
        → (x.key, x.value) ∷ (y.key, y.value) ∷ pairs_in es
        ≡ match_ordering o ((k, v) ∷ (y.key, y.value) ∷ pairs_in es) ((y.key, v) ∷ pairs_in es)
        ((y.key, y.value) ∷ insert_entry val_cmp (pairs_in es) k v)
    by Less new = λ j. (key j, value j) ∷ (y.key, y.value) ∷ pairs_in es
    by Equal new = absurd (cc)
    by Greater new = let later : place + 1 ≤ p = new_behind (place + 1) k (pairs_in es) p new in absurd (omega arith)
put_new place k v (y ∷ es) (suc i) p x new at key value =
    by (val_cmp k y.key) (λ new. put_new (place + 1) k v es i p x new (omega arith) key value) new
  where
    by : (o : Ordering)
        → (place_from (place + 1) k (pairs_in es) ≡ Err p → pairs_in (insert es i x) ≡ insert_entry val_cmp (pairs_in es) k v)
        → match_ordering o (Err place) (Ok place) (place_from (place + 1) k (pairs_in es)) ≡ Err p
        → (y.key, y.value) ∷ pairs_in (insert es i x)
        ≡ match_ordering o ((k, v) ∷ (y.key, y.value) ∷ pairs_in es) ((y.key, v) ∷ pairs_in es)
        ((y.key, y.value) ∷ insert_entry val_cmp (pairs_in es) k v)
    by Less rest new = let same : place ≡ p = cc in absurd (omega arith)
    by Equal rest new = absurd (cc)
    by Greater rest new = ap (λ (ps : List (Val × Val)). (y.key, y.value) ∷ ps) (rest new)
