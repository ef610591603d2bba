-- Lists whose items are identical, from a place on.
use Rattle.std.proofs.Common.{◌≡◌, ◌≢◌, ◌∙◌, sym, ap, refl, ℕ, zero, suc, ◌+◌, ◌<◌, ◌≤◌, List, [], ◌∷◌, length, get_or, drop, Bool, true, false, ◌&&◌, arith}
use Rattle.std.proofs.Math.Seq.{drop-cons}
use Rattle.template_values_model.specs.Val.{Val, vals_of}
use Rattle.template_values_core.specs.Maps.{pairs_of}
use Rattle.template_values_core.specs.Shape.{pairs_in}
use Rattle.template_values_core.specs.declared.value.Entry.{Entry}
use Rattle.template_builtins_tests.specs.Identity.{identical, identical_items, identical_pairs}

abbrev same_items : List Val → List Val → Bool
same_items xs ys = identical_items (vals_of xs) (vals_of ys)

abbrev same_entries : List Entry → List Entry → Bool
same_entries xs ys = identical_pairs (pairs_of (pairs_in xs)) (pairs_of (pairs_in ys))

-- ---- lists from an item on, and behind their end

drop_at : {A : Type 0} (xs : List A) (i : ℕ) (x : A) → i < length xs → x ≡ get_or xs i x → drop i xs ≡ x ∷ drop (i + 1) xs
drop_at xs i x within read =
    let more : suc i ≡ i + 1 = omega arith in
    drop-cons xs i x within ∙ ap (λ (n : ℕ). get_or xs i x ∷ drop n xs) more ∙ ap (λ y. y ∷ drop (i + 1) xs) (sym read)

drop_none : {A : Type 0} (xs : List A) (i : ℕ) → length xs ≤ i → drop i xs ≡ []
drop_none [] zero h = refl
drop_none [] (suc i) h = refl
drop_none (x ∷ xs) zero h = absurd (omega (arith, h))
drop_none (x ∷ xs) (suc i) h = drop_none xs i (omega (arith, h))

-- ---- truth values

first_fails : (a b r : Bool) → r ≡ a → r ≡ false → (a && b) ≡ false
first_fails a b r is e = ap (λ (q : Bool). q && b) (sym is ∙ e)

first_holds : (a b r : Bool) → r ≡ a → r ≡ true → (a && b) ≡ b
first_holds a b r is e = ap (λ (q : Bool). q && b) (sym is ∙ e)

second_fails : (a b : Bool) → b ≡ false → (a && b) ≡ false
second_fails true b e = e
second_fails false b e = refl

-- ---- items

items_at : (xs ys : List Val) (i : ℕ) (x y : Val) → i < length xs → i < length ys → x ≡ get_or xs i x → y ≡ get_or ys i y
    → same_items (drop i xs) (drop i ys) ≡ (identical x y && same_items (drop (i + 1) xs) (drop (i + 1) ys))
items_at xs ys i x y h k read read' =
    ap (λ (l : List Val). same_items l (drop i ys)) (drop_at xs i x h read)
    ∙ ap (λ (l : List Val). same_items (x ∷ drop (i + 1) xs) l) (drop_at ys i y k read')

pub items_stop : (xs ys : List Val) (i : ℕ) (x y : Val) (r : Bool) → i < length xs → i < length ys → x ≡ get_or xs i x → y ≡ get_or ys i y
    → r ≡ identical x y → r ≡ false → same_items (drop i xs) (drop i ys) ≡ false
items_stop xs ys i x y r h k read read' is stop =
    items_at xs ys i x y h k read read' ∙ first_fails (identical x y) (same_items (drop (i + 1) xs) (drop (i + 1) ys)) r is stop

pub items_more : (xs ys : List Val) (i : ℕ) (x y : Val) (r : Bool) → i < length xs → i < length ys → x ≡ get_or xs i x → y ≡ get_or ys i y
    → r ≡ identical x y → r ≡ true → same_items (drop i xs) (drop i ys) ≡ same_items (drop (i + 1) xs) (drop (i + 1) ys)
items_more xs ys i x y r h k read read' is more =
    items_at xs ys i x y h k read read' ∙ first_holds (identical x y) (same_items (drop (i + 1) xs) (drop (i + 1) ys)) r is more

pub items_end : (xs ys : List Val) (i : ℕ) → length xs ≤ i → length ys ≤ i → same_items (drop i xs) (drop i ys) ≡ true
items_end xs ys i h k =
    ap (λ (l : List Val). same_items l (drop i ys)) (drop_none xs i h) ∙ ap (λ (l : List Val). same_items [] l) (drop_none ys i k)

pub items_differ : (xs ys : List Val) → length xs ≢ length ys → same_items xs ys ≡ false
items_differ [] [] h = absurd (h refl)
items_differ [] (y ∷ ys) h = refl
items_differ (x ∷ xs) [] h = refl
items_differ (x ∷ xs) (y ∷ ys) h =
    second_fails (identical x y) (same_items xs ys) (items_differ xs ys (λ e. h (omega (arith, e))))

-- ---- entries

entries_at : (xs ys : List Entry) (i : ℕ) (x y : Entry) → i < length xs → i < length ys → x ≡ get_or xs i x → y ≡ get_or ys i y
    → same_entries (drop i xs) (drop i ys)
    ≡ ((identical x.key y.key && identical x.value y.value) && same_entries (drop (i + 1) xs) (drop (i + 1) ys))
entries_at xs ys i x y h k read read' =
    ap (λ (l : List Entry). same_entries l (drop i ys)) (drop_at xs i x h read)
    ∙ ap (λ (l : List Entry). same_entries (x ∷ drop (i + 1) xs) l) (drop_at ys i y k read')

pub entries_stop : (xs ys : List Entry) (i : ℕ) (x y : Entry) (r : Bool) → i < length xs → i < length ys → x ≡ get_or xs i x
    → y ≡ get_or ys i y → r ≡ (identical x.key y.key && identical x.value y.value) → r ≡ false
    → same_entries (drop i xs) (drop i ys) ≡ false
entries_stop xs ys i x y r h k read read' is stop =
    entries_at xs ys i x y h k read read'
    ∙ first_fails (identical x.key y.key && identical x.value y.value) (same_entries (drop (i + 1) xs) (drop (i + 1) ys)) r is stop

pub entries_more : (xs ys : List Entry) (i : ℕ) (x y : Entry) (r : Bool) → i < length xs → i < length ys → x ≡ get_or xs i x
    → y ≡ get_or ys i y → r ≡ (identical x.key y.key && identical x.value y.value) → r ≡ true
    → same_entries (drop i xs) (drop i ys) ≡ same_entries (drop (i + 1) xs) (drop (i + 1) ys)
entries_more xs ys i x y r h k read read' is more =
    entries_at xs ys i x y h k read read'
    ∙ first_holds (identical x.key y.key && identical x.value y.value) (same_entries (drop (i + 1) xs) (drop (i + 1) ys)) r is more

pub entries_end : (xs ys : List Entry) (i : ℕ) → length xs ≤ i → length ys ≤ i → same_entries (drop i xs) (drop i ys) ≡ true
entries_end xs ys i h k =
    ap (λ (l : List Entry). same_entries l (drop i ys)) (drop_none xs i h)
    ∙ ap (λ (l : List Entry). same_entries [] l) (drop_none ys i k)

pub entries_differ : (xs ys : List Entry) → length xs ≢ length ys → same_entries xs ys ≡ false
entries_differ [] [] h = absurd (h refl)
entries_differ [] (y ∷ ys) h = refl
entries_differ (x ∷ xs) [] h = refl
entries_differ (x ∷ xs) (y ∷ ys) h =
    second_fails (identical x.key y.key && identical x.value y.value) (same_entries xs ys) (entries_differ xs ys (λ e. h (omega (arith, e))))
