-- Marks of places, and the order in which they come.
use Rattle.std.proofs.Common.{◌≡◌, ◌⊎◌, ◌∙◌, ℕ, zero, suc, ◌+◌, ◌<◌, Bool, true, false, not, cond, List, [], ◌∷◌, ◌++◌, length, get_or, set, None, Some, refl, sym, ap, subst, inl, inr, arith, get_or-set_other, get_or-set_same, length-set}
use Rattle.std.specs.Borrow.{Bor}
use Rattle.std.specs.BTreeMap.{BTreeMap}
use Rattle.std.specs.List.{Contains, sum_by}
use Rattle.std.proofs.lemmas.Bool.{cases_eq}
use Rattle.std.proofs.lemmas.List.{append-nil, append_assoc, length_push}
use Rattle.std.proofs.lemmas.List.Elements.{All-append, All-nil, All-push, All-weaker, Contains-append_cases, Contains-append_left, Contains-append_right, Contains-push}
use Rattle.std.proofs.lemmas.List.Sums.{sum_by-set}
use Rattle.template_program_reached.specs.Places.{Comes, IsMarked, Reaches, kept_of}

abbrev unmarked : Bool → ℕ
unmarked b = cond (not b) 1 0

-- one more mark
pub one_more_mark : (marks : List Bool) (order : List ℕ) (i : ℕ) → i < length marks → get_or marks i false ≡ false → IsMarked marks order
    → IsMarked (set marks i true) (order ++ i ∷ [])
one_more_mark marks order i within new is = record {
  marked = λ j e. marked j e (cases_eq j i);
  ordered = All-push (λ (j : ℕ). (j < length (set marks i true)) × (get_or (set marks i true) j false ≡ true)) order i
      (All-weaker (λ (j : ℕ). (j < length marks) × (get_or marks j false ≡ true))
      (λ (j : ℕ). (j < length (set marks i true)) × (get_or (set marks i true) j false ≡ true))
      (λ j h. (omega (arith, h.0, length-set marks i true), kept j (h.1) (cases_eq j i))) order (is.ordered))
      (omega (arith, length-set marks i true), get_or-set_same marks i true false within);
  counted =
      let step : sum_by unmarked (set marks i true) + unmarked (get_or marks i false) ≡ sum_by unmarked marks + 0 =
      sum_by-set unmarked marks i true false within in
      let one : unmarked (get_or marks i false) ≡ 1 = ap unmarked new in
      omega (arith, step, one, is.counted, length_push order i, length-set marks i true);
}
  where
    marked : (j : ℕ) → get_or (set marks i true) j false ≡ true → (j ≡ i) ⊎ (j ≡ i → ⊥) → Contains (order ++ i ∷ []) j
    marked j e (inl same) = subst (Contains (order ++ i ∷ [])) (sym same) (Contains-push order i)
    marked j e (inr other) = Contains-append_left order (i ∷ []) j (is.marked j (sym (get_or-set_other marks i j true false other) ∙ e))

    kept : (j : ℕ) → get_or marks j false ≡ true → (j ≡ i) ⊎ (j ≡ i → ⊥) → get_or (set marks i true) j false ≡ true
    kept j e (inl same) = subst (λ (m : ℕ). get_or (set marks i true) m false ≡ true) (sym same) (get_or-set_same marks i true false within)
    kept j e (inr other) = get_or-set_other marks i j true false other ∙ e

-- what comes from a name
abbrev pub IsFrom : BTreeMap (Bor (List ℕ)) ℕ → List (List ℕ) → ℕ → Type 0
IsFrom places names i = (name : List ℕ) × Contains names name × (kept_of name places ≡ Some i)

-- the only one of a list
pub only_one : (x y : List ℕ) → Contains (x ∷ []) y → y ≡ x
only_one x y (zero, h, e) = sym e
only_one x y (suc k, h, e) = absurd (omega arith)

-- nothing comes: the place of the name stands there, or there is none
pub reaches_nothing : (places : BTreeMap (Bor (List ℕ)) ℕ) (names : List (List ℕ)) (order : List ℕ)
    → ((name : List ℕ) (i : ℕ) → Contains names name → kept_of name places ≡ Some i → Contains order i) → Reaches places names order order
reaches_nothing places names order there = record {
  added = [];
  behind = sym (append-nil order);
  from = All-nil (IsFrom places names);
  there = there;
}

-- the place of a name comes
pub reaches_one : (places : BTreeMap (Bor (List ℕ)) ℕ) (name : List ℕ) (i : ℕ) (old new : List ℕ) → kept_of name places ≡ Some i
    → new ≡ old ++ i ∷ []
    → Reaches places (name ∷ []) old new
reaches_one places name i old new kept is = record {
  added = i ∷ [];
  behind = is;
  from = All-push (IsFrom places (name ∷ [])) [] i (All-nil (IsFrom places (name ∷ []))) (name, (0, omega arith, refl), kept);
  there = λ q j among at.
      let same : kept_of q places ≡ Some i = ap (λ (n : List ℕ). kept_of n places) (only_one name q among) ∙ kept in
      let e : j ≡ i = cc in
      subst (λ (xs : List ℕ). Contains xs j) (sym is) (subst (λ (m : ℕ). Contains (old ++ i ∷ []) m) (sym e) (Contains-push old i));
}

pub reaches_place : (places : BTreeMap (Bor (List ℕ)) ℕ) (name : List ℕ) (i : ℕ) (old new : List ℕ) → kept_of name places ≡ Some i
    → Comes i old new
    → Reaches places (name ∷ []) old new
reaches_place places name i old new kept (inr is) = reaches_one places name i old new kept is
reaches_place places name i old new kept (inl (same, there)) =
    subst (Reaches places (name ∷ []) old) (sym same) (reaches_nothing places (name ∷ []) old (λ q j among at.
    let named : kept_of q places ≡ Some i = ap (λ (n : List ℕ). kept_of n places) (only_one name q among) ∙ kept in
    let e : j ≡ i = cc in
    subst (Contains old) (sym e) there))

-- the name has no place
pub reaches_none : (places : BTreeMap (Bor (List ℕ)) ℕ) (name : List ℕ) (old : List ℕ) → kept_of name places ≡ None
    → Reaches places (name ∷ []) old old
reaches_none places name old none = reaches_nothing places (name ∷ []) old (λ q j among at.
    let named : kept_of q places ≡ None = ap (λ (n : List ℕ). kept_of n places) (only_one name q among) ∙ none in
    absurd (cc))

-- the places of some names and of others
pub reaches_both : (places : BTreeMap (Bor (List ℕ)) ℕ) (names others : List (List ℕ)) (s t u : List ℕ) → Reaches places names s t
    → Reaches places others t u
    → Reaches places (names ++ others) s u
reaches_both places names others s t u a b = record {
  added = a.added ++ b.added;
  behind = b.behind ∙ ap (λ (xs : List ℕ). xs ++ b.added) (a.behind) ∙ append_assoc s (a.added) (b.added);
  from = All-append (IsFrom places (names ++ others)) (a.added) (b.added)
      (All-weaker (IsFrom places names) (IsFrom places (names ++ others))
      (λ i h. (h.0, Contains-append_left names others (h.0) (h.1), h.2)) (a.added) (a.from))
      (All-weaker (IsFrom places others) (IsFrom places (names ++ others))
      (λ i h. (h.0, Contains-append_right names others (h.0) (h.1), h.2)) (b.added) (b.from));
  there = λ name i among at. there name i at (Contains-append_cases names others name among);
}
  where
    there : (name : List ℕ) (i : ℕ) → kept_of name places ≡ Some i → Contains names name ⊎ Contains others name → Contains u i
    there name i at (inl among) = subst (λ (xs : List ℕ). Contains xs i) (sym (b.behind))
        (Contains-append_left t (b.added) i (a.there name i among at))
    there name i at (inr among) = b.there name i among at
