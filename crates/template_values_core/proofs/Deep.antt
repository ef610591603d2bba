-- Lemmas on how deep items and entries are, and on what follows the first of them.
use Rattle.std.proofs.Common.{◌≡◌, ◌∙◌, sym, ℕ, zero, suc, ◌+◌, ◌<◌, ◌≤◌, max, List, [], ◌∷◌, length, get_or, drop, true, false, arith, ap, refl, Less, Equal, Greater}
use Rattle.std.proofs.Math.Seq.{drop-cons}
use Rattle.std.specs.declared.cmp.Ordering.{Ordering}
use Rattle.std.specs.Ordering.{is_eq, ordering_then}
use Rattle.template_values_core.specs.Order.{end, key_cmp, vals_key, pairs_key, val_cmp}
use Rattle.template_values_model.specs.Val.{Val, vals_of}
use Rattle.template_values_core.specs.Depth.{depth, vals_depth, pairs_depth}
use Rattle.template_values_core.specs.Maps.{pairs_of}
use Rattle.template_values_core.specs.Parts.{items_deep, entries_deep}
use Rattle.template_values_core.specs.Shape.{pairs_in}
use Rattle.template_values_core.specs.declared.value.Entry.{Entry}

pub items_deep-vals_depth : (vs : List Val) → items_deep vs ≤ vals_depth (vals_of vs) + 1
items_deep-vals_depth [] = omega arith
items_deep-vals_depth (v ∷ vs) = omega (arith, items_deep-vals_depth vs)

pub entries_deep-pairs_depth : (es : List Entry) → entries_deep es ≤ pairs_depth (pairs_of (pairs_in es)) + 1
entries_deep-pairs_depth [] = omega arith
entries_deep-pairs_depth (e ∷ es) = omega (arith, entries_deep-pairs_depth es)

pub items_deep-at : (vs : List Val) (i : ℕ) (v : Val) → i < length vs → v ≡ get_or vs i v → depth v + 1 ≤ items_deep vs
items_deep-at [] i v h is = absurd (omega (arith, h))
items_deep-at (w ∷ vs) zero v h is = omega (arith, ap depth is)
items_deep-at (w ∷ vs) (suc i) v h is = omega (arith, items_deep-at vs i v (omega (arith, h)) is)

pub entries_deep-at : (es : List Entry) (i : ℕ) (e : Entry) → i < length es → e ≡ get_or es i e
    → max (depth e.key + 1) (depth e.value + 1) ≤ entries_deep es
entries_deep-at [] i e h is = absurd (omega (arith, h))
entries_deep-at (f ∷ es) zero e h is = omega (arith, ap (λ (x : Entry). depth x.key) is, ap (λ (x : Entry). depth x.value) is)
entries_deep-at (f ∷ es) (suc i) e h is = omega (arith, entries_deep-at es i e (omega (arith, h)) is)

-- an empty list stands before one that goes on
items_none_first : (ys : List Val) (i : ℕ) → i < length ys → key_cmp end (vals_key (vals_of (drop i ys))) ≡ Less
items_none_first [] i k = absurd (omega (arith, k))
items_none_first (y ∷ ys) zero k = refl
items_none_first (y ∷ ys) (suc i) k = items_none_first ys i (omega (arith, k))

entries_none_first : (ys : List Entry) (i : ℕ) → i < length ys → key_cmp end (pairs_key (pairs_of (pairs_in (drop i ys)))) ≡ Less
entries_none_first [] i k = absurd (omega (arith, k))
entries_none_first (y ∷ ys) zero k = refl
entries_none_first (y ∷ ys) (suc i) k = entries_none_first ys i (omega (arith, k))

-- a list that ends first stands first
pub items_end_first : (xs ys : List Val) (i : ℕ) → length xs ≤ i → i < length ys
    → key_cmp (vals_key (vals_of (drop i xs))) (vals_key (vals_of (drop i ys))) ≡ Less
items_end_first xs [] i h k = absurd (omega (arith, k))
items_end_first [] (y ∷ ys) zero h k = refl
items_end_first [] (y ∷ ys) (suc i) h k = items_none_first ys i (omega (arith, k))
items_end_first (x ∷ xs) (y ∷ ys) zero h k = absurd (omega (arith, h))
items_end_first (x ∷ xs) (y ∷ ys) (suc i) h k = items_end_first xs ys i (omega (arith, h)) (omega (arith, k))

pub entries_end_first : (xs ys : List Entry) (i : ℕ) → length xs ≤ i → i < length ys
    → key_cmp (pairs_key (pairs_of (pairs_in (drop i xs)))) (pairs_key (pairs_of (pairs_in (drop i ys)))) ≡ Less
entries_end_first xs [] i h k = absurd (omega (arith, k))
entries_end_first [] (y ∷ ys) zero h k = refl
entries_end_first [] (y ∷ ys) (suc i) h k = entries_none_first ys i (omega (arith, k))
entries_end_first (x ∷ xs) (y ∷ ys) zero h k = absurd (omega (arith, h))
entries_end_first (x ∷ xs) (y ∷ ys) (suc i) h k = entries_end_first xs ys i (omega (arith, h)) (omega (arith, k))

-- lists from an item on, and behind their end
drop_at : {A : Type 0} (xs : List A) (i : ℕ) (x : A) → i < length xs → x ≡ get_or xs i x → drop i xs ≡ x ∷ drop (i + 1) xs
drop_at xs i x within read =
    let more : suc i ≡ i + 1 = omega arith in
    drop-cons xs i x within ∙ ap (λ (n : ℕ). get_or xs i x ∷ drop n xs) more ∙ ap (λ y. y ∷ drop (i + 1) xs) (sym read)

drop_none : {A : Type 0} (xs : List A) (i : ℕ) → length xs ≤ i → drop i xs ≡ []
drop_none [] zero h = refl
drop_none [] (suc i) h = refl
drop_none (x ∷ xs) zero h = absurd (omega (arith, h))
drop_none (x ∷ xs) (suc i) h = drop_none xs i (omega (arith, h))

items_at : (xs ys : List Val) (i : ℕ) (x y : Val) → i < length xs → i < length ys → x ≡ get_or xs i x → y ≡ get_or ys i y
    → key_cmp (vals_key (vals_of (drop i xs))) (vals_key (vals_of (drop i ys)))
    ≡ ordering_then (val_cmp x y) (key_cmp (vals_key (vals_of (drop (i + 1) xs))) (vals_key (vals_of (drop (i + 1) ys))))
items_at xs ys i x y h k read read' =
    ap (λ (l : List Val). key_cmp (vals_key (vals_of l)) (vals_key (vals_of (drop i ys)))) (drop_at xs i x h read)
    ∙ ap (λ (l : List Val). key_cmp (vals_key (vals_of (x ∷ drop (i + 1) xs))) (vals_key (vals_of l))) (drop_at ys i y k read')

entries_at : (xs ys : List Entry) (i : ℕ) (x y : Entry) → i < length xs → i < length ys → x ≡ get_or xs i x → y ≡ get_or ys i y
    → key_cmp (pairs_key (pairs_of (pairs_in (drop i xs)))) (pairs_key (pairs_of (pairs_in (drop i ys))))
    ≡ ordering_then (val_cmp x.key y.key) (ordering_then (val_cmp x.value y.value)
    (key_cmp (pairs_key (pairs_of (pairs_in (drop (i + 1) xs)))) (pairs_key (pairs_of (pairs_in (drop (i + 1) ys))))))
entries_at xs ys i x y h k read read' =
    ap (λ (l : List Entry). key_cmp (pairs_key (pairs_of (pairs_in l))) (pairs_key (pairs_of (pairs_in (drop i ys))))) (drop_at xs i x h read)
    ∙ ap (λ (l : List Entry). key_cmp (pairs_key (pairs_of (pairs_in (x ∷ drop (i + 1) xs)))) (pairs_key (pairs_of (pairs_in l)))) (drop_at ys i y k read')

-- the order stops at the first items that differ, and goes on behind equal ones
then_stops : (p q : Ordering) → is_eq p ≡ false → ordering_then p q ≡ p
then_stops Less q h = refl
then_stops Equal q h = absurd (cc)
then_stops Greater q h = refl

then_goes_on : (p q : Ordering) → is_eq p ≡ true → ordering_then p q ≡ q
then_goes_on Less q h = absurd (cc)
then_goes_on Equal q h = refl
then_goes_on Greater q h = absurd (cc)

pub items_stop : (xs ys : List Val) (i : ℕ) (x y : Val) (o : Ordering) → i < length xs → i < length ys → x ≡ get_or xs i x → y ≡ get_or ys i y
    → o ≡ val_cmp x y → is_eq o ≡ false → key_cmp (vals_key (vals_of (drop i xs))) (vals_key (vals_of (drop i ys))) ≡ o
items_stop xs ys i x y o h k read read' is stop =
    let rest = key_cmp (vals_key (vals_of (drop (i + 1) xs))) (vals_key (vals_of (drop (i + 1) ys))) in
    items_at xs ys i x y h k read read' ∙ ap (λ (p : Ordering). ordering_then p rest) (sym is) ∙ then_stops o rest stop

pub items_more : (xs ys : List Val) (i : ℕ) (x y : Val) (o : Ordering) → i < length xs → i < length ys → x ≡ get_or xs i x → y ≡ get_or ys i y
    → o ≡ val_cmp x y → is_eq o ≡ true → key_cmp (vals_key (vals_of (drop i xs))) (vals_key (vals_of (drop i ys)))
    ≡ key_cmp (vals_key (vals_of (drop (i + 1) xs))) (vals_key (vals_of (drop (i + 1) ys)))
items_more xs ys i x y o h k read read' is more =
    let rest = key_cmp (vals_key (vals_of (drop (i + 1) xs))) (vals_key (vals_of (drop (i + 1) ys))) in
    items_at xs ys i x y h k read read' ∙ ap (λ (p : Ordering). ordering_then p rest) (sym is) ∙ then_goes_on o rest more

abbrev entries_cmp : List Entry → List Entry → Ordering
entries_cmp xs ys = key_cmp (pairs_key (pairs_of (pairs_in xs))) (pairs_key (pairs_of (pairs_in ys)))

pub entries_stop : (xs ys : List Entry) (i : ℕ) (x y : Entry) (o : Ordering) → i < length xs → i < length ys → x ≡ get_or xs i x
    → y ≡ get_or ys i y → o ≡ val_cmp x.key y.key → is_eq o ≡ false → entries_cmp (drop i xs) (drop i ys) ≡ o
entries_stop xs ys i x y o h k read read' is stop =
    let rest = ordering_then (val_cmp x.value y.value) (entries_cmp (drop (i + 1) xs) (drop (i + 1) ys)) in
    entries_at xs ys i x y h k read read' ∙ ap (λ (p : Ordering). ordering_then p rest) (sym is) ∙ then_stops o rest stop

entries_behind_keys : (xs ys : List Entry) (i : ℕ) (x y : Entry) (o p : Ordering) → i < length xs → i < length ys → x ≡ get_or xs i x
    → y ≡ get_or ys i y → o ≡ val_cmp x.key y.key → is_eq o ≡ true → p ≡ val_cmp x.value y.value
    → entries_cmp (drop i xs) (drop i ys) ≡ ordering_then p (entries_cmp (drop (i + 1) xs) (drop (i + 1) ys))
entries_behind_keys xs ys i x y o p h k read read' is more values =
    let left = entries_cmp (drop (i + 1) xs) (drop (i + 1) ys) in
    let rest = ordering_then (val_cmp x.value y.value) left in
    entries_at xs ys i x y h k read read' ∙ ap (λ (q : Ordering). ordering_then q rest) (sym is) ∙ then_goes_on o rest more
    ∙ ap (λ (q : Ordering). ordering_then q left) (sym values)

pub entries_stop_behind : (xs ys : List Entry) (i : ℕ) (x y : Entry) (o p : Ordering) → i < length xs → i < length ys → x ≡ get_or xs i x
    → y ≡ get_or ys i y → o ≡ val_cmp x.key y.key → is_eq o ≡ true → p ≡ val_cmp x.value y.value → is_eq p ≡ false
    → entries_cmp (drop i xs) (drop i ys) ≡ p
entries_stop_behind xs ys i x y o p h k read read' is more values stop =
    entries_behind_keys xs ys i x y o p h k read read' is more values
    ∙ then_stops p (entries_cmp (drop (i + 1) xs) (drop (i + 1) ys)) stop

pub entries_more : (xs ys : List Entry) (i : ℕ) (x y : Entry) (o p : Ordering) → i < length xs → i < length ys → x ≡ get_or xs i x
    → y ≡ get_or ys i y → o ≡ val_cmp x.key y.key → is_eq o ≡ true → p ≡ val_cmp x.value y.value → is_eq p ≡ true
    → entries_cmp (drop i xs) (drop i ys) ≡ entries_cmp (drop (i + 1) xs) (drop (i + 1) ys)
entries_more xs ys i x y o p h k read read' is more values further =
    entries_behind_keys xs ys i x y o p h k read read' is more values
    ∙ then_goes_on p (entries_cmp (drop (i + 1) xs) (drop (i + 1) ys)) further

-- a list that goes on where the other ended stands behind it, and two that end together are equal
pub items_go_on : (xs ys : List Val) (i : ℕ) (x : Val) → i < length xs → x ≡ get_or xs i x → length ys ≤ i
    → key_cmp (vals_key (vals_of (drop i xs))) (vals_key (vals_of (drop i ys))) ≡ Greater
items_go_on xs ys i x h read k =
    ap (λ (l : List Val). key_cmp (vals_key (vals_of l)) (vals_key (vals_of (drop i ys)))) (drop_at xs i x h read)
    ∙ ap (λ (l : List Val). key_cmp (vals_key (vals_of (x ∷ drop (i + 1) xs))) (vals_key (vals_of l))) (drop_none ys i k)

pub entries_go_on : (xs ys : List Entry) (i : ℕ) (x : Entry) → i < length xs → x ≡ get_or xs i x → length ys ≤ i
    → key_cmp (pairs_key (pairs_of (pairs_in (drop i xs)))) (pairs_key (pairs_of (pairs_in (drop i ys)))) ≡ Greater
entries_go_on xs ys i x h read k =
    ap (λ (l : List Entry). key_cmp (pairs_key (pairs_of (pairs_in l))) (pairs_key (pairs_of (pairs_in (drop i ys))))) (drop_at xs i x h read)
    ∙ ap (λ (l : List Entry). key_cmp (pairs_key (pairs_of (pairs_in (x ∷ drop (i + 1) xs)))) (pairs_key (pairs_of (pairs_in l)))) (drop_none ys i k)

pub items_end_together : (xs ys : List Val) (i : ℕ) → length xs ≤ i → length ys ≤ i
    → key_cmp (vals_key (vals_of (drop i xs))) (vals_key (vals_of (drop i ys))) ≡ Equal
items_end_together xs ys i h k =
    ap (λ (l : List Val). key_cmp (vals_key (vals_of l)) (vals_key (vals_of (drop i ys)))) (drop_none xs i h)
    ∙ ap (λ (l : List Val). key_cmp end (vals_key (vals_of l))) (drop_none ys i k)

pub entries_end_together : (xs ys : List Entry) (i : ℕ) → length xs ≤ i → length ys ≤ i
    → key_cmp (pairs_key (pairs_of (pairs_in (drop i xs)))) (pairs_key (pairs_of (pairs_in (drop i ys)))) ≡ Equal
entries_end_together xs ys i h k =
    ap (λ (l : List Entry). key_cmp (pairs_key (pairs_of (pairs_in l))) (pairs_key (pairs_of (pairs_in (drop i ys))))) (drop_none xs i h)
    ∙ ap (λ (l : List Entry). key_cmp end (pairs_key (pairs_of (pairs_in l)))) (drop_none ys i k)
