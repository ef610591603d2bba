-- The number that a name has among those that have numbers, and the names behind it.
use Rattle.std.proofs.Common.{◌≡◌, ℕ, ◌+◌, ◌<◌, ◌≤◌, Bool, true, false, not, cond, ◌||◌, eqb, ltb, leb, List, [], ◌∷◌, ◌++◌, length, map, Option, None, Some, is_some, unwrap_or, bytes_eq, refl, sym, ap, subst, ◌∙◌, arith, eq-eqb, le-leb, lt-ltb, ltb-false, ltb-true, position}
use Rattle.std.specs.List.{position_or_len}
use Rattle.std.proofs.lemmas.Bool.{lt-leb}
use Rattle.std.proofs.lemmas.List.{length-map, length-append}
use Rattle.std.proofs.lemmas.List.Folds.{position_or_len_push}
use Rattle.std.proofs.lemmas.List.Sums.{prefix_len-le-length}
use Rattle.std.proofs.lemmas.Slice.Eq.{bytes_eq-Decides}
use Rattle.template_compiler_generator.specs.Numbers.{no_number, number_among, place_among, with_name}

abbrev is_name : List ℕ → List ℕ → Bool
is_name name = λ other. bytes_eq other name

-- a name that has a number keeps it
pub named_again : (names : List (List ℕ)) (name : List ℕ) (i : ℕ) → place_among names name ≡ Some i
    → (names ≡ with_name names name) × (i ≡ number_among names name)
named_again names name i at =
    let P : Option ℕ → Type 0 = λ o. (names ≡ cond (is_some o || leb 50 (length names)) names (names ++ name ∷ [])) × (i ≡ unwrap_or o no_number) in
    subst P (sym at) (refl, refl)

-- where all numbers are given, a name that has none gets none
pub named_late : (names : List (List ℕ)) (name : List ℕ) → place_among names name ≡ None → 50 ≤ length names
    → (names ≡ with_name names name) × (no_number ≡ number_among names name)
named_late names name at full =
    let P : Option ℕ → Type 0 = λ o. (names ≡ cond (is_some o || leb 50 (length names)) names (names ++ name ∷ [])) × (no_number ≡ unwrap_or o no_number) in
    subst P (sym at) (ap (λ b. cond b names (names ++ name ∷ [])) (sym (le-leb 50 (length names) full)), refl)

-- a place that is found lies before the end, and where none is, all are passed
found_within : (test : Bool) (k i : ℕ) → cond test (Some k) None ≡ Some i → (test ≡ true) × (k ≡ i)
found_within true k i at = let same : k ≡ i = cc in (refl, same)
found_within false k i at = absurd (cc)

pub place_within : (names : List (List ℕ)) (name : List ℕ) (i : ℕ) → place_among names name ≡ Some i → i < length names
place_within names name i at =
    let k = position_or_len (is_name name) names in
    let found = found_within (ltb k (length names)) k i at in
    subst (λ (n : ℕ). n < length names) found.1 (ltb-true k (length names) found.0)

passed_by : (test : Bool) (k : ℕ) → cond test (Some k) None ≡ None → test ≡ false
passed_by true k at = absurd (cc)
passed_by false k at = refl

nowhere : (names : List (List ℕ)) (name : List ℕ) → place_among names name ≡ None → position_or_len (is_name name) names ≡ length names
nowhere names name at =
    let k = position_or_len (is_name name) names in
    let past : length names ≤ k = ltb-false k (length names) (passed_by (ltb k (length names)) k at) in
    omega (arith, past, prefix_len-le-length (λ other. not (bytes_eq other name)) names)

itself : (name : List ℕ) → bytes_eq name name ≡ true
itself name = (bytes_eq-Decides name name).1 refl

-- behind the others it is found there
found_last : (names : List (List ℕ)) (name : List ℕ) → place_among names name ≡ None → position_or_len (is_name name) (names ++ name ∷ []) ≡ length names
found_last names name at =
    let n = length names in
    position_or_len_push (is_name name) names name
    ∙ (λ i. cond (eqb (nowhere names name at i) n) (n + cond (itself name i) 0 1) (nowhere names name at i))
    ∙ ap (λ b. cond b (n + 0) n) (eq-eqb n n refl)
    ∙ (omega arith)

-- before that it gets the next one
pub named_first : (names : List (List ℕ)) (name : List ℕ) → place_among names name ≡ None → length names < 50
    → (names ++ name ∷ [] ≡ with_name names name) × (length names ≡ number_among (names ++ name ∷ []) name)
named_first names name at room =
    let n = length names in
    let longer : length (names ++ name ∷ []) ≡ n + 1 = length-append names (name ∷ []) in
    let P : Option ℕ → Type 0 = λ o. names ++ name ∷ [] ≡ cond (is_some o || leb 50 n) names (names ++ name ∷ []) in (
      subst P (sym at) (ap (λ b. cond b names (names ++ name ∷ [])) (sym (lt-leb 50 n room))),
      sym ((λ i. unwrap_or (cond (ltb (found_last names name at i) (longer i)) (Some (found_last names name at i)) None) no_number)
          ∙ ap (λ b. unwrap_or (cond b (Some n) None) no_number) (lt-ltb n (n + 1) (omega arith))),
    )

-- names that stand at places
passes_over : {X : Type 0} (f : X → List ℕ) (xs : List X) (name : List ℕ) → position_or_len (λ x. bytes_eq (f x) name) xs ≡ position_or_len (is_name name) (map f xs)
passes_over f [] name = refl
passes_over f (x ∷ xs) name = ap (λ n. cond (not (bytes_eq (f x) name)) (1 + n) 0) (passes_over f xs name)

pub place_at : {X : Type 0} (f : X → List ℕ) (xs : List X) (name : List ℕ) → position (λ x. bytes_eq (f x) name) xs ≡ place_among (map f xs) name
place_at f xs name =
    let same = sym (length-map xs f) in
    (λ i. cond (ltb (passes_over f xs name i) (same i)) (Some (passes_over f xs name i)) None)
