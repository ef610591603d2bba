-- Which of those that stand uses a name.
use Rattle.std.proofs.Common.{Result, Ok, Err, OnErr, ◌≡◌, ℕ, zero, suc, Bool, true, false, ◌||◌, List, [], ◌∷◌, ◌++◌, map, Some, inl, inr, ◌⊎◌, ◌↔◌, IsTrue, refl, sym, ap, subst, ◌∙◌, string_bytes}
use Rattle.std.specs.Borrow.{Bor}
use Rattle.std.specs.List.{list_any, slice_get}
use Rattle.std.specs.Map.Iter.{deref_pair}
use Rattle.std.specs.Prelude.{String}
use Rattle.std.specs.declared.alloc.Global.{Global}
use Rattle.std.specs.String.{string_cmp, string_cmp_total}
use Rattle.std.specs.BTreeMap as tree
use Rattle.std.specs.BTreeMap.{BTreeMap}
use Rattle.std.proofs.lemmas.Map.Entries.{place_from_lookup, btree_map_get_place}
use Rattle.template_machine_environment_histories.specs.Using.{IsUsedByOne}

or_false : (b : Bool) → (b || false) ≡ b
or_false true = refl
or_false false = refl

or_assoc : (a b c : Bool) → ((a || b) || c) ≡ (a || (b || c))
or_assoc true b c = refl
or_assoc false b c = refl

-- one item more
any_push : {X : Type 0} (test : X → Bool) (xs : List X) (x : X) → list_any test (xs ++ x ∷ []) ≡ (list_any test xs || test x)
any_push test [] x = or_false (test x)
any_push test (y ∷ ys) x = ap (λ b. test y || b) (any_push test ys x) ∙ sym (or_assoc (test y) (list_any test ys) (test x))

pub more_used : {X : Type 0} (test : X → Bool) (xs : List X) (x : X) (old before new : Bool) → before ≡ (old || list_any test xs) → new ≡ (before || test x)
    → new ≡ (old || list_any test (xs ++ x ∷ []))
more_used test xs x old before new so_far step =
    step ∙ ap (λ b. b || test x) so_far ∙ or_assoc old (list_any test xs) (test x) ∙ ap (λ b. old || b) (sym (any_push test xs x))

any_map : {X Y : Type 0} (test : Y → Bool) (g : X → Y) (xs : List X) → list_any test (map g xs) ≡ list_any (λ x. test (g x)) xs
any_map test g [] = refl
any_map test g (x ∷ xs) = ap (λ b. test (g x) || b) (any_map test g xs)

pub either : (a b : Bool) → IsTrue (a || b) ↔ (IsTrue a ⊎ IsTrue b)
either true b = (λ h. inl refl, λ h. refl)
either false b = (λ h. inr h, λ h. elim h [ inl n ↦ cc | inr y ↦ y ])

-- where in a list
place_of : {X : Type 0} (test : X → Bool) (xs : List X) → IsTrue (list_any test xs) → (i : ℕ) × (x : X) × (slice_get xs i ≡ Some x) × IsTrue (test x)
place_of test [] h = cc
place_of test (x ∷ xs) h = elim ((either (test x) (list_any test xs)).0 h) [
  | inl here ↦ (0, x, refl, here)
  | inr there ↦ let p = place_of test xs there in (suc p.0, p.1, p.2, p.3)
]

at_place : {X : Type 0} (test : X → Bool) (xs : List X) (i : ℕ) (x : X) → slice_get xs i ≡ Some x → IsTrue (test x) → IsTrue (list_any test xs)
at_place test [] i x at is = cc
at_place test (y ∷ ys) zero x at is =
    let same : y ≡ x = cc in (either (test y) (list_any test ys)).1 (inl (subst (λ z. IsTrue (test z)) (sym same) is))
at_place test (y ∷ ys) (suc i) x at is = (either (test y) (list_any test ys)).1 (inr (at_place test ys i x at is))

-- those that stand are their map's entries
used_by_one : {T : Type 0} (uses : T → List ℕ → Bool) (standing : BTreeMap (String Global) T) → tree.IsOrdered string_cmp standing → (name : List ℕ)
    → IsTrue (list_any (λ e. uses e.1 name) standing.entries) ↔ IsUsedByOne uses standing name
used_by_one uses standing ordered name = (
  λ used.
      let p = place_of (λ e. uses e.1 name) standing.entries used in
      let found = btree_map_get_place string_cmp_total standing p.0 p.1.0 p.1.1 ordered p.2 in
      (string_bytes p.1.0, p.1.1, found, p.3),
  λ used.
      let place = place_from_lookup _ standing.entries used.1 used.2 in
      at_place (λ e. uses e.1 name) standing.entries place.0 (place.1, used.1) place.2 used.3,
)

pub all_used : {T : Type 0} (uses : T → List ℕ → Bool) (standing : BTreeMap (String Global) T) (yielded : List (Bor (String Global) × Bor T)) (name : List ℕ) (old new : Bool)
    → tree.IsOrdered string_cmp standing → map deref_pair yielded ≡ standing.entries → new ≡ (old || list_any (λ e. uses e.1.now name) yielded)
    → IsTrue new ↔ (IsTrue old ⊎ IsUsedByOne uses standing name)
all_used {T} uses standing yielded name old new ordered all is =
    let test : String Global × T → Bool = λ e. uses e.1 name in
    let whole : new ≡ (old || list_any test standing.entries) =
    is ∙ ap (λ b. old || b) (sym (any_map test deref_pair yielded) ∙ ap (λ es. list_any test es) all) in
    let one = used_by_one uses standing ordered name in
    let both = either old (list_any test standing.entries) in (
      λ h. elim (both.0 (subst IsTrue whole h)) [ inl a ↦ inl a | inr u ↦ inr (one.0 u) ],
      λ h. subst IsTrue (sym whole) (both.1 (elim h [ inl a ↦ inl a | inr u ↦ inr (one.1 u) ])),
    )

any_front : {X : Type 0} (test : X → Bool) (xs ys : List X) → IsTrue (list_any test xs) → IsTrue (list_any test (xs ++ ys))
any_front test [] ys h = cc
any_front test (x ∷ xs) ys h = elim ((either (test x) (list_any test xs)).0 h) [
  | inl here ↦ (either (test x) (list_any test (xs ++ ys))).1 (inl here)
  | inr there ↦ (either (test x) (list_any test (xs ++ ys))).1 (inr (any_front test xs ys there))
]

any_next : {X : Type 0} (test : X → Bool) (xs : List X) (x : X) (ys : List X) → IsTrue (test x) → IsTrue (list_any test (xs ++ x ∷ ys))
any_next test [] x ys is = (either (test x) (list_any test ys)).1 (inl is)
any_next test (y ∷ xs) x ys is = (either (test y) (list_any test (xs ++ x ∷ ys))).1 (inr (any_next test xs x ys is))

-- a name of those so far and of the next one is of one that stands
pub some_used : {T : Type 0} (uses : T → List ℕ → Bool) (standing : BTreeMap (String Global) T) (yielded : List (Bor (String Global) × Bor T)) (next : String Global × T)
    (rest : List (String Global × T)) (name : List ℕ) (old before : Bool) → tree.IsOrdered string_cmp standing
    → standing.entries ≡ map deref_pair yielded ++ next ∷ rest → before ≡ (old || list_any (λ e. uses e.1.now name) yielded)
    → IsTrue (before || uses next.1 name) → IsTrue old ⊎ IsUsedByOne uses standing name
some_used {T} uses standing yielded next rest name old before ordered all is h =
    let test : String Global × T → Bool = λ e. uses e.1 name in
    let one = (used_by_one uses standing ordered name).0 in
    let among : IsTrue (list_any test (map deref_pair yielded ++ next ∷ rest)) → IsUsedByOne uses standing name =
    λ some. one (subst (λ es. IsTrue (list_any test es)) (sym all) some) in
    elim ((either before (test next)).0 h) [
      | inl before_it ↦ elim ((either old (list_any (λ e. uses e.1.now name) yielded)).0 (subst IsTrue is before_it)) [
        | inl o ↦ inl o
        | inr so_far ↦ inr (among (any_front test (map deref_pair yielded) (next ∷ rest) (subst IsTrue (sym (any_map test deref_pair yielded)) so_far)))
      ]
      | inr it ↦ inr (among (any_next test (map deref_pair yielded) next rest it))
    ]

pub on_err : {T E : Type 0} (P : Type 0) (r : Result T E) → P → OnErr r P
on_err P (Ok value) holds = tt
on_err P (Err error) holds = holds
