-- Items kept while their keys go into a set, and runs of equal keys.
use Rattle.std.proofs.Common.{◌≡◌, ◌∙◌, sym, ap, subst, refl, ℕ, ◌+◌, ◌<◌, length, take, get_or, List, [], ◌∷◌, ◌++◌, map, Bool, true, false, cond, not, Less, Equal, Greater}
use Rattle.std.specs.Prelude.{◌||◌}
use Rattle.std.specs.declared.cmp.Ordering.{Ordering}
use Rattle.std.specs.Ordering.{is_eq, match_ordering}
use Rattle.std.specs.List.{filter, list_any}
use Rattle.std.specs.BTreeMap.{is_at}
use Rattle.std.specs.BTreeSet.{insert_key}
use Rattle.std.specs.Cmp.{alike_right}
use Rattle.std.proofs.lemmas.List.{take_more}
use Rattle.template_values_model.specs.Val.{Val}
use Rattle.template_values_core.specs.Order.{val_cmp, val_total}
use Rattle.template_builtins_sorting.specs.declared.keyed.Keyed.{Keyed}
use Rattle.template_builtins_sorting.specs.Alike.{alike, distinct}

-- ---- a set of keys

-- the keys have one that is equal to this one
abbrev pub has : Val → List Val → Bool
has q ks = list_any (is_at (val_cmp q)) ks

or_same : (b c : Bool) → (b || (b || c)) ≡ (b || c)
or_same true c = refl
or_same false c = refl

or_turned : (a b c : Bool) → (a || (b || c)) ≡ (b || (a || c))
or_turned true true c = refl
or_turned true false c = refl
or_turned false b c = refl

has-insert_key : (q k : Val) (ks : List Val) → has q (insert_key val_cmp ks k) ≡ (is_eq (val_cmp q k) || has q ks)
has-insert_key q k [] = refl
has-insert_key q k (x ∷ ks) = by (val_cmp k x) refl (has-insert_key q k ks)
  where
    by : (o : Ordering) → val_cmp k x ≡ o → has q (insert_key val_cmp ks k) ≡ (is_eq (val_cmp q k) || has q ks)
        → has q (match_ordering o (k ∷ x ∷ ks) (x ∷ ks) (x ∷ insert_key val_cmp ks k)) ≡ (is_eq (val_cmp q k) || has q (x ∷ ks))
    by Less is rest = refl
    by Equal is rest =
        sym (or_same (is_eq (val_cmp q x)) (has q ks))
        ∙ ap (λ (o : Ordering). is_eq o || has q (x ∷ ks)) (sym (alike_right val_total k x q is))
    by Greater is rest =
        ap (λ (b : Bool). is_eq (val_cmp q x) || b) rest ∙ or_turned (is_eq (val_cmp q x)) (is_eq (val_cmp q k)) (has q ks)

-- ---- what is kept

-- one of the items is alike x
abbrev pub is_met : Keyed → List Keyed → Bool
is_met x xs = list_any (alike x) xs

-- x, unless one before it is alike
abbrev pub unless_met : Bool → Keyed → List Keyed
unless_met true x = []
unless_met false x = x ∷ []

filter-append : (test : Keyed → Bool) (xs ys : List Keyed) → filter test (xs ++ ys) ≡ filter test xs ++ filter test ys
filter-append test [] ys = refl
filter-append test (x ∷ xs) ys = by (test x) (filter-append test xs ys)
  where
    by : (b : Bool) → filter test (xs ++ ys) ≡ filter test xs ++ filter test ys
        → cond b (x ∷ filter test (xs ++ ys)) (filter test (xs ++ ys)) ≡ cond b (x ∷ filter test xs) (filter test xs) ++ filter test ys
    by true rest = ap (λ (zs : List Keyed). x ∷ zs) rest
    by false rest = rest

filter-unless_met : (x y : Keyed) (met : Bool)
    → filter (λ z. not (alike z y)) (unless_met met x) ≡ unless_met (alike x y || met) x
filter-unless_met x y true = by (alike x y)
  where
    by : (b : Bool) → [] ≡ unless_met (b || true) x
    by true = refl
    by false = refl
filter-unless_met x y false = by (alike x y)
  where
    by : (b : Bool) → cond (not b) (x ∷ []) [] ≡ unless_met (b || false) x
    by true = refl
    by false = refl

distinct-push : (xs : List Keyed) (x : Keyed) → distinct (xs ++ (x ∷ [])) ≡ distinct xs ++ unless_met (is_met x xs) x
distinct-push [] x = refl
distinct-push (y ∷ xs) x =
    ap (λ (zs : List Keyed). y ∷ filter (λ z. not (alike z y)) zs) (distinct-push xs x)
    ∙ ap (λ (zs : List Keyed). y ∷ zs)
    (filter-append (λ z. not (alike z y)) (distinct xs) (unless_met (is_met x xs) x)
    ∙ ap (λ (zs : List Keyed). filter (λ z. not (alike z y)) (distinct xs) ++ zs) (filter-unless_met x y (is_met x xs)))

map-append : (xs ys : List Keyed) → map (λ x. x.item) (xs ++ ys) ≡ map (λ x. x.item) xs ++ map (λ x. x.item) ys
map-append [] ys = refl
map-append (x ∷ xs) ys = ap (λ (vs : List Val). x.item ∷ vs) (map-append xs ys)

-- one item more
pub items-distinct_push : (xs : List Keyed) (x : Keyed)
    → map (λ y. y.item) (distinct (xs ++ (x ∷ []))) ≡ map (λ y. y.item) (distinct xs) ++ map (λ y. y.item) (unless_met (is_met x xs) x)
items-distinct_push xs x =
    ap (map (λ y. y.item)) (distinct-push xs x) ∙ map-append (distinct xs) (unless_met (is_met x xs) x)

-- the set has the keys of the items so far
abbrev pub Knows : List Val → List Keyed → Type 0
Knows ks xs = (q : Val) → has q ks ≡ list_any (λ y. is_eq (val_cmp q y.key)) xs

any-push : (test : Keyed → Bool) (xs : List Keyed) (x : Keyed) → list_any test (xs ++ (x ∷ [])) ≡ (test x || list_any test xs)
any-push test [] x = refl
any-push test (y ∷ xs) x = ap (λ (b : Bool). test y || b) (any-push test xs x) ∙ or_turned (test y) (test x) (list_any test xs)

pub knows_more : (ks : List Val) (xs : List Keyed) (x : Keyed) → Knows ks xs → Knows (insert_key val_cmp ks x.key) (xs ++ (x ∷ []))
knows_more ks xs x known q =
    has-insert_key q x.key ks
    ∙ ap (λ (b : Bool). is_eq (val_cmp q x.key) || b) (known q)
    ∙ sym (any-push (λ y. is_eq (val_cmp q y.key)) xs x)

-- ---- a loop's step

next_taken : (xs : List Keyed) (i : ℕ) (x : Keyed) → i < length xs → x ≡ get_or xs i x → take (i + 1) xs ≡ take i xs ++ (x ∷ [])
next_taken xs i x lt is = take_more xs i x lt ∙ ap (λ (y : Keyed). take i xs ++ (y ∷ [])) (sym is)

-- x is kept if it is new
abbrev pub if_new : Bool → Keyed → List Keyed
if_new true x = x ∷ []
if_new false x = []

if_new-not : (met : Bool) (x : Keyed) → unless_met met x ≡ if_new (not met) x
if_new-not true x = refl
if_new-not false x = refl

pub kept_more : (xs : List Keyed) (i : ℕ) (x : Keyed) (ks items : List Val) (new : Bool) → i < length xs → x ≡ get_or xs i x
    → items ≡ map (λ y. y.item) (distinct (take i xs)) → Knows ks (take i xs) → new ≡ not (has x.key ks)
    → items ++ map (λ y. y.item) (if_new new x) ≡ map (λ y. y.item) (distinct (take (i + 1) xs))
kept_more xs i x ks items new lt is kept known test =
    (λ j. kept j ++ map (λ y. y.item) (if_new (test j) x))
    ∙ ap (λ (met : Bool). map (λ y. y.item) (distinct (take i xs)) ++ map (λ y. y.item) (if_new (not met) x)) (known x.key)
    ∙ ap (λ (zs : List Keyed). map (λ y. y.item) (distinct (take i xs)) ++ map (λ y. y.item) zs) (sym (if_new-not (is_met x (take i xs)) x))
    ∙ sym (items-distinct_push (take i xs) x)
    ∙ ap (λ (zs : List Keyed). map (λ y. y.item) (distinct zs)) (sym (next_taken xs i x lt is))

pub known_more : (xs : List Keyed) (i : ℕ) (x : Keyed) (ks : List Val) → i < length xs → x ≡ get_or xs i x
    → Knows ks (take i xs) → Knows (insert_key val_cmp ks x.key) (take (i + 1) xs)
known_more xs i x ks lt is known =
    subst (Knows (insert_key val_cmp ks x.key)) (sym (next_taken xs i x lt is)) (knows_more ks (take i xs) x known)

-- what is kept and known after one item more, whose key is copied as k
pub met_more : (xs : List Keyed) (i : ℕ) (x : Keyed) (k : Val) (ks keys items kept : List Val) (new : Bool) → i < length xs
    → x ≡ get_or xs i x → k ≡ x.key → (items ≡ map (λ y. y.item) (distinct (take i xs))) × Knows ks (take i xs)
    → new ≡ not (has k ks) → keys ≡ insert_key val_cmp ks k → kept ≡ items ++ map (λ y. y.item) (if_new new x)
    → (kept ≡ map (λ y. y.item) (distinct (take (i + 1) xs))) × Knows keys (take (i + 1) xs)
met_more xs i x k ks keys items kept new lt is copied before test added pushed =
    let tested : new ≡ not (has x.key ks) = test ∙ ap (λ (j : Val). not (has j ks)) copied in
    let stored : keys ≡ insert_key val_cmp ks x.key = added ∙ ap (insert_key val_cmp ks) copied in (
      pushed ∙ kept_more xs i x ks items new lt is before.0 before.1 tested,
      subst (λ (js : List Val). Knows js (take (i + 1) xs)) (sym stored) (known_more xs i x ks lt is before.1),
    )

pub nothing_more : (vs : List Val) → vs ++ [] ≡ vs
nothing_more [] = refl
nothing_more (v ∷ vs) = ap (λ (ws : List Val). v ∷ ws) (nothing_more vs)
