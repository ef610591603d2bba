-- A list in order that keeps the order of equals is the one that is put in order.
use Rattle.std.proofs.Common.{◌≡◌, ◌∙◌, ℕ, ◌+◌, sym, ap, subst, refl, List, [], ◌∷◌, get_or, Bool, true, false, cond, not, suc, arith}
use Rattle.std.specs.Prelude.{if◌then◌else◌, ◌&&◌}
use Rattle.std.specs.List.{filter, AllByRecursion}
use Rattle.std.specs.List.Sorted.{IsSortedBy, IsSortedByClosure, IsStableBy, IsStableByClosure, ties}
use Rattle.std.specs.Fn.{Called, ComparesAs}
use Rattle.std.specs.Cmp.{IsStrictWeakOrder}
use Rattle.std.specs.declared.cmp.Ordering.{Ordering}
use Rattle.std.specs.Ordering.{is_lt}
use Rattle.std.proofs.lemmas.Fn.{always_returns_same}
use Rattle.std.proofs.lemmas.List.Sorted.{ranks_by, IsStrictWeakOrder-flip}
use denote.Param.Members.{Mut}
use denote.Ref.{Bor}
use Rattle.template_values_core.specs.Order.{val_total}
use Rattle.template_builtins_sorting.specs.declared.keyed.Keyed.{Keyed}
use Rattle.template_builtins_sorting.specs.Sorted.{put_in, in_order, rises, falls}

module _ {T : Type 0} (before : T → T → Bool) (order : IsStrictWeakOrder before) where
  -- none is before one that stands in front of it
  abbrev Ascends : List T → Type 0
  Ascends [] = Unit {0}
  Ascends (x ∷ xs) = AllByRecursion (λ y. before y x ≡ false) xs × Ascends xs

  not_itself : (x : T) → before x x ≡ false
  not_itself x = by (before x x) refl
    where
      by : (b : Bool) → before x x ≡ b → before x x ≡ false
      by true is = order.one_way x x is
      by false is = is

  ties_itself : (x : T) → ties before x x ≡ true
  ties_itself x = rw (not_itself x) refl

  -- ---- what is put in order keeps the order of equals

  -- x ties neither of two that do not tie
  apart : (x y z : T) → before z y ≡ true → ties before x y ≡ true → ties before x z ≡ false
  apart x y z less tie = by (before x z) (before z x) (before x y) (before y x) refl refl refl refl tie
    where
      by : (b c d e : Bool) → before x z ≡ b → before z x ≡ c → before x y ≡ d → before y x ≡ e → (not d && not e) ≡ true
          → (not (before x z) && not (before z x)) ≡ false
      by true c d e is _ _ _ h = rw is refl
      by false true d e is also _ _ h = rw (is, also) refl
      by false false true e is also f g h = absurd (cc)
      by false false false true is also f g h = absurd (cc)
      by false false false false is also f g h =
          let no : before z y ≡ false = order.chain z x y also f in absurd (cc)

  filter-put_in : (x y : T) (zs : List T) → filter (ties before x) (put_in before y zs) ≡ filter (ties before x) (y ∷ zs)
  filter-put_in x y [] = refl
  filter-put_in x y (z ∷ zs) = by (before z y) refl (filter-put_in x y zs)
    where
      test : T → Bool
      test = ties before x

      swapped : (b c : Bool) → test y ≡ b → test z ≡ c → before z y ≡ true
          → cond (test z) (z ∷ cond (test y) (y ∷ filter test zs) (filter test zs)) (cond (test y) (y ∷ filter test zs) (filter test zs))
          ≡ cond (test y) (y ∷ cond (test z) (z ∷ filter test zs) (filter test zs)) (cond (test z) (z ∷ filter test zs) (filter test zs))
      swapped true true f g less = let no : test z ≡ false = apart x y z less f in absurd (cc)
      swapped true false f g less = rw (f, g) refl
      swapped false true f g less = rw (f, g) refl
      swapped false false f g less = rw (f, g) refl

      by : (b : Bool) → before z y ≡ b → filter test (put_in before y zs) ≡ filter test (y ∷ zs)
          → filter test (if b then z ∷ put_in before y zs else y ∷ z ∷ zs) ≡ filter test (y ∷ z ∷ zs)
      by true less rest = rw rest (swapped (test y) (test z) refl refl less)
      by false less rest = refl

  stable-in_order : (xs : List T) → IsStableBy before xs (in_order before xs)
  stable-in_order [] x = refl
  stable-in_order (y ∷ xs) x =
      filter-put_in x y (in_order before xs)
      ∙ ap (λ (zs : List T). cond (ties before x y) (y ∷ zs) zs) (stable-in_order xs x)

  -- ---- and is in order

  all_not_before : (x y : T) (zs : List T) → before x y ≡ false → AllByRecursion (λ z. before z x ≡ false) zs
      → AllByRecursion (λ z. before z y ≡ false) zs
  all_not_before x y [] h all = tt
  all_not_before x y (z ∷ zs) h all = (order.chain z x y all.0 h, all_not_before x y zs h all.1)

  all-put_in : (P : T → Type 0) (y : T) (zs : List T) → P y → AllByRecursion P zs → AllByRecursion P (put_in before y zs)
  all-put_in P y [] h all = (h, tt)
  all-put_in P y (z ∷ zs) h all = by (before z y) (all-put_in P y zs h all.1)
    where
      by : (b : Bool) → AllByRecursion P (put_in before y zs) → AllByRecursion P (if b then z ∷ put_in before y zs else y ∷ z ∷ zs)
      by true rest = (all.0, rest)
      by false rest = (h, all)

  ascends-put_in : (y : T) (zs : List T) → Ascends zs → Ascends (put_in before y zs)
  ascends-put_in y [] up = (tt, tt)
  ascends-put_in y (z ∷ zs) up = by (before z y) refl (ascends-put_in y zs up.1)
    where
      by : (b : Bool) → before z y ≡ b → Ascends (put_in before y zs) → Ascends (if b then z ∷ put_in before y zs else y ∷ z ∷ zs)
      by true less rest = (all-put_in (λ w. before w z ≡ false) y zs (order.one_way z y less) up.0, rest)
      by false less rest = ((less, all_not_before z y zs less up.0), up)

  ascends-in_order : (xs : List T) → Ascends (in_order before xs)
  ascends-in_order [] = tt
  ascends-in_order (x ∷ xs) = ascends-put_in x (in_order before xs) (ascends-in_order xs)

  -- ---- what std calls sorted ascends

  later_sorted : (x : T) (xs : List T) → IsSortedBy before (x ∷ xs) → IsSortedBy before xs
  later_sorted x xs h k d low lt =
      let on : suc k + 1 ≡ suc (k + 1) = omega arith in
      subst (λ (j : ℕ). before (get_or (x ∷ xs) j d) (get_or (x ∷ xs) (suc k) d) ≡ false) on (h (suc k) d (omega arith) (omega (arith, lt)))

  all_after : (x : T) (xs : List T) → IsSortedBy before (x ∷ xs) → AllByRecursion (λ y. before y x ≡ false) xs
  all_after x [] h = tt
  all_after x (y ∷ []) h = (h 0 x (omega arith) (omega arith), tt)
  all_after x (y ∷ z ∷ xs) h =
      let first : before y x ≡ false = h 0 x (omega arith) (omega arith) in
      let next : AllByRecursion (λ w. before w y ≡ false) (z ∷ xs) = all_after y (z ∷ xs) (later_sorted x (y ∷ z ∷ xs) h) in
      (first, all_not_before y x (z ∷ xs) first next)

  ascends_from_sorted : (xs : List T) → IsSortedBy before xs → Ascends xs
  ascends_from_sorted [] h = tt
  ascends_from_sorted (x ∷ xs) h = (all_after x xs h, ascends_from_sorted xs (later_sorted x xs h))

  -- ---- there is one such list

  -- what holds of all holds of the first that is kept
  all_first : (P : T → Type 0) (test : T → Bool) (x : T) (zs rest : List T) → AllByRecursion P zs → filter test zs ≡ x ∷ rest → P x
  all_first P test x [] rest all is = absurd (cc)
  all_first P test x (z ∷ zs) rest all is = by (test z) refl (all_first P test x zs rest all.1)
    where
      by : (b : Bool) → test z ≡ b → (filter test zs ≡ x ∷ rest → P x) → P x
      by true kept others =
          let here : z ∷ filter test zs ≡ x ∷ rest = ap (λ (b : Bool). cond b (z ∷ filter test zs) (filter test zs)) (sym kept) ∙ is in
          let same_one : z ≡ x = cc in
          subst P same_one all.0
      by false gone others = others (ap (λ (b : Bool). cond b (z ∷ filter test zs) (filter test zs)) (sym gone) ∙ is)

  -- one that ties x is in the list, so x is not before the first
  not_before_first : (x z : T) (zs rest : List T) → AllByRecursion (λ w. before w z ≡ false) zs
      → filter (ties before x) (z ∷ zs) ≡ x ∷ rest → before x z ≡ false
  not_before_first x z zs rest all is = all_first (λ w. before w z ≡ false) (ties before x) x (z ∷ zs) rest (not_itself z, all) is

  kept_first : (x : T) (xs : List T) → filter (ties before x) (x ∷ xs) ≡ x ∷ filter (ties before x) xs
  kept_first x xs = ap (λ (b : Bool). cond b (x ∷ filter (ties before x) xs) (filter (ties before x) xs)) (ties_itself x)

  same_tails : (test : T → Bool) (x : T) (ys zs : List T) → filter test (x ∷ zs) ≡ filter test (x ∷ ys) → filter test zs ≡ filter test ys
  same_tails test x ys zs is = by (test x) is
    where
      by : (b : Bool) → cond b (x ∷ filter test zs) (filter test zs) ≡ cond b (x ∷ filter test ys) (filter test ys)
          → filter test zs ≡ filter test ys
      by true h = cc
      by false h = h

  same : (ys zs : List T) → Ascends ys → Ascends zs → IsStableBy before ys zs → ys ≡ zs
  same [] [] up climbs stable = refl
  same [] (z ∷ zs) up climbs stable =
      let no : z ∷ filter (ties before z) zs ≡ [] = sym (kept_first z zs) ∙ stable z in absurd (cc)
  same (y ∷ ys) [] up climbs stable =
      let no : y ∷ filter (ties before y) ys ≡ [] = sym (kept_first y ys) ∙ sym (stable y) in absurd (cc)
  same (y ∷ ys) (z ∷ zs) up climbs stable =
      let after : before y z ≡ false = not_before_first y z zs _ climbs.0 (stable y ∙ kept_first y ys) in
      let back : before z y ≡ false = not_before_first z y ys _ up.0 (sym (stable z) ∙ kept_first z zs) in
      let tie : ties before y z ≡ true = rw (after, back) refl in
      let firsts : z ∷ filter (ties before y) zs ≡ y ∷ filter (ties before y) ys =
      ap (λ (b : Bool). cond b (z ∷ filter (ties before y) zs) (filter (ties before y) zs)) (sym tie) ∙ stable y ∙ kept_first y ys in
      let first : z ≡ y = cc in
      let others : IsStableBy before ys zs =
      λ x. same_tails (ties before x) y ys zs (ap (λ (w : T). filter (ties before x) (w ∷ zs)) (sym first) ∙ stable x) in
      ap (λ (w : T). w ∷ ys) (sym first) ∙ ap (λ (ws : List T). z ∷ ws) (same ys zs up.1 climbs.1 others)

pub in_order_is : {T : Type 0} (before : T → T → Bool) → IsStrictWeakOrder before → (xs ys : List T) → IsSortedBy before ys
    → IsStableBy before xs ys → ys ≡ in_order before xs
in_order_is before order xs ys sorted stable =
    same before order ys (in_order before xs) (ascends_from_sorted before order ys sorted) (ascends-in_order before order xs)
    (λ x. stable-in_order before order xs x ∙ sym (stable x))

-- from what a stable sort by a closure ensures, where that answers by this test
pub in_order-sort_by : {F T : Type 0} {g : Mut F (Bor T × (Bor T × Unit {0})) Ordering} {f : F} (before : T → T → Bool)
    → IsStrictWeakOrder before → (xs ys : List T) → IsStableByClosure g f xs ys → IsSortedByClosure g f ys
    → ((a : Bor T × (Bor T × Unit {0})) (r : Ordering) (f' : F) → Called g f a r f' → (is_lt r ≡ before a.0.now a.1.0.now) × (f' ≡ f))
    → ys ≡ in_order before xs
in_order-sort_by {g = g} {f = f} before order xs ys stable sorted calls =
    in_order_is before order xs ys (sorted before order answers) (stable before order answers)
  where
    answers : ComparesAs g before f
    answers = always_returns_same g (λ a r. is_lt r ≡ before a.0.now a.1.0.now) f calls

pub rises_order : IsStrictWeakOrder rises
rises_order = ranks_by val_total (λ (x : Keyed). x.key)

pub falls_order : IsStrictWeakOrder falls
falls_order = IsStrictWeakOrder-flip rises rises_order
