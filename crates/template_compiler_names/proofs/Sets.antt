-- A set with one name more.
use Rattle.std.proofs.Common.{◌≡◌, ℕ, Bool, true, false, cond, ◌||◌, ◌+◌, ◌<◌, List, [], ◌∷◌, ◌++◌, suc, arith, length, drop, take, get_or, codes, bytes_eq, Bor, not, ◌&&◌, IsTrue, inl, inr, ◌⊎◌, ◌↔◌, refl, sym, ap, subst, ◌∙◌}
use Rattle.std.specs.Ordering.{is_eq, nat_cmp}
use Rattle.std.specs.Cmp.Lexicographic.{slice_cmp}
use Rattle.std.specs.BTreeSet.{BTreeSet}
use Rattle.std.proofs.lemmas.List.Folds.{list_any-append}
use Rattle.std.proofs.lemmas.Map.Text.{is_eq-slice_cmp}
use Rattle.template_compiler_names.specs.Names.{IsToldFor, Places, along, anywhere, are_fields, joined}
use Rattle.template_compiler_names.proofs.Segments.{fields_are}
use Rattle.template_compiler_names.specs.Dotted.{fields_of, gathered}
use Rattle.template_compiler_names.specs.Among.{is_among}
use Rattle.template_compiler_names.specs.Goes.{IsFound, has, knows, place, tells}
use Rattle.template_compiler_names.specs.declared.state.Names.{Names}
use Rattle.std.proofs.Math.Seq.{drop-cons}
use Rattle.std.proofs.lemmas.List.{append_assoc, get_or_default, take_more}
use Rattle.std.proofs.lemmas.Slice.Eq.{bytes_eq-Decides}

one_first : (a x b : Bool) → ((a || (x || false)) || b) ≡ ((a || b) || x)
one_first true x b = refl
one_first false true true = refl
one_first false true false = refl
one_first false false true = refl
one_first false false false = refl

or_all : (a b c : Bool) → (a || (b || c)) ≡ ((a || b) || c)
or_all true b c = refl
or_all false b c = refl

pub cond_or : (test before : Bool) → cond test true before ≡ (before || test)
cond_or true true = refl
cond_or true false = refl
cond_or false true = refl
cond_or false false = refl

pub has_more : (old new : BTreeSet (Bor (List ℕ))) (id q : List ℕ) → has new q ≡ cond (is_eq (slice_cmp nat_cmp id q)) true (has old q) →
    has new q ≡ (has old q || bytes_eq id q)
has_more old new id q updated =
    updated ∙ cond_or (is_eq (slice_cmp nat_cmp id q)) (has old q) ∙ ap (λ b. has old q || b) (is_eq-slice_cmp id q)

-- where the name is not known the place's text alone is found
left_of : (a b : Bool) → IsTrue (a && b) → IsTrue a
left_of true b h = refl
left_of false b h = cc

right_of : (a b : Bool) → IsTrue (a && b) → IsTrue b
right_of true b h = h
right_of false b h = cc

same_fields : (xs ys : List (List ℕ)) → IsTrue (are_fields xs ys) → xs ≡ ys
same_fields [] [] h = refl
same_fields [] (y ∷ ys) h = cc
same_fields (x ∷ xs) [] h = cc
same_fields (x ∷ xs) (y ∷ ys) h =
    ap (λ z. z ∷ xs) ((bytes_eq-Decides x y).0 (left_of (bytes_eq x y) (are_fields xs ys) h)) ∙
    ap (λ zs. y ∷ zs) (same_fields xs ys (right_of (bytes_eq x y) (are_fields xs ys) h))

fresh_place : (names : Names) (id : List ℕ) (fields : List (List ℕ)) (p : Places) → knows names id ≡ false → p.name ≡ id → p.counts fields ≡ true →
    IsTrue (not (knows names p.name) && place id fields p)
fresh_place names id fields p fresh is counts =
    ap (λ n. not (knows names n) && place id fields p) is ∙ ap (λ k. not k && place id fields p) fresh ∙
    ap (λ b. b && bytes_eq id p.name) counts ∙ (bytes_eq-Decides id p.name).1 (sym is)

-- the name of a place that is found alone
pub found_alone : (names : Names) (id : List ℕ) (fields : List (List ℕ)) → names.nested ≡ false → (q : List ℕ) → IsFound names (place id fields) q → IsTrue (bytes_eq id q)
found_alone names id fields flat q f =
    let told : f.0 ≡ anywhere q = subst (λ n. IsToldFor n q f.0) flat f.1 in
    let named : IsTrue (bytes_eq id f.0.name) =
    right_of (f.0.counts fields) (bytes_eq id f.0.name) (right_of (not (knows names f.0.name)) (place id fields f.0) f.2) in
    ap (λ (p : Places). bytes_eq id p.name) (sym told) ∙ named

-- a name that was found stays found
pub found_before : (names : Names) (id : List ℕ) (fields : List (List ℕ)) → names.nested ≡ false → tells names id ≡ true →
    (q : List ℕ) → IsFound names (place id fields) q → IsTrue (tells names q)
found_before names id fields flat told q f =
    ap (λ n. tells names n) (sym ((bytes_eq-Decides id q).0 (found_alone names id fields flat q f))) ∙ told

-- a name that is told alone
pub alone : (names : Names) (id : List ℕ) (fields : List (List ℕ)) → names.nested ≡ false → knows names id ≡ false →
    (q : List ℕ) → IsTrue (bytes_eq id q) ↔ IsFound names (place id fields) q
alone names id fields flat fresh q = (
  λ same.
      let is = (bytes_eq-Decides id q).0 same in (
        anywhere q,
        subst (λ n. IsToldFor n q (anywhere q)) (sym flat) refl,
        fresh_place names id fields (anywhere q) fresh (sym is) refl,
      ),
  λ f. found_alone names id fields flat q f,
)

-- a name with what stands behind it
pub dotted : (names : Names) (id : List ℕ) (fields : List (List ℕ)) → names.nested ≡ true → knows names id ≡ false →
    (q : List ℕ) → IsTrue (bytes_eq (joined id fields) q) ↔ IsFound names (place id fields) q
dotted names id fields nested fresh q = (
  λ same.
      let is = (bytes_eq-Decides (joined id fields) q).0 same in (
        along id fields,
        subst (λ n. IsToldFor n q (along id fields)) (sym nested) (id, fields, refl, is),
        fresh_place names id fields (along id fields) fresh refl (fields_are fields),
      ),
  λ f.
      let told : IsToldFor true q f.0 = subst (λ n. IsToldFor n q f.0) nested f.1 in
      let here = right_of (not (knows names f.0.name)) (place id fields f.0) f.2 in
      let named : id ≡ told.0 =
      (bytes_eq-Decides id f.0.name).0 (right_of (f.0.counts fields) (bytes_eq id f.0.name) here) ∙ ap (λ (p : Places). p.name) told.2 in
      let behind : fields ≡ told.1 =
      same_fields fields told.1 (ap (λ (p : Places). p.counts fields) (sym told.2) ∙ left_of (f.0.counts fields) (bytes_eq id f.0.name) here) in
      (bytes_eq-Decides (joined id fields) q).1 (ap (λ n. joined n fields) named ∙ ap (λ fs. joined told.0 fs) behind ∙ told.3),
)

-- a name that is known is not found again
pub known_place : (names : Names) (id : List ℕ) (fields : List (List ℕ)) → knows names id ≡ true → (q : List ℕ) → IsFound names (place id fields) q → ⊥
known_place names id fields known q f =
    let here = right_of (not (knows names f.0.name)) (place id fields f.0) f.2 in
    let named : id ≡ f.0.name = (bytes_eq-Decides id f.0.name).0 (right_of (f.0.counts fields) (bytes_eq id f.0.name) here) in
    let none : false ≡ true = sym (ap (λ k. not k) (sym (ap (λ n. knows names n) named) ∙ known)) ∙ left_of (not (knows names f.0.name)) (place id fields f.0) f.2 in
    cc

-- with one name more in a list
pub one_more : (xs ys : List (Bor (List ℕ))) (x : Bor (List ℕ)) (k : Bool) (q : List ℕ) → ys ≡ xs ++ x ∷ [] →
    (is_among ys q || k) ≡ ((is_among xs q || k) || bytes_eq x.now q)
one_more xs ys x k q pushed =
    ap (λ (names : List (Bor (List ℕ))). is_among names q || k) pushed ∙
    ap (λ b. b || k) (list_any-append (λ (other : Bor (List ℕ)). bytes_eq other.now q) xs (x ∷ [])) ∙
    one_first (is_among xs q) (bytes_eq x.now q) k

-- with one more in a set beside it
pub one_beside : (a old new b : Bool) → new ≡ (old || b) → (a || new) ≡ ((a || old) || b)
one_beside a old new b more = ap (λ x. a || x) more ∙ or_all a old b

pub stored_here : (a o h b : Bool) → (a || (o || (h || b))) ≡ ((a || (o || h)) || b)
stored_here true o h b = refl
stored_here false true h b = refl
stored_here false false h b = refl

-- the names that are left to be added
pub one_added : (xs : List (Bor (List ℕ))) (i : ℕ) (d : Bor (List ℕ)) (old new all : Bool) (q : List ℕ) → i < length xs →
    new ≡ (old || bytes_eq (get_or xs i d).now q) → (old || is_among (drop i xs) q) ≡ all → (new || is_among (drop (i + 1) xs) q) ≡ all
one_added xs i d old new all q within is so_far =
    let next : suc i ≡ i + 1 = omega arith in
    let rest = is_among (drop (i + 1) xs) q in
    ap (λ n. n || rest) is ∙ sym (or_all old (bytes_eq (get_or xs i d).now q) rest) ∙
    ap (λ (ys : List (Bor (List ℕ))). old || is_among ys q) (sym (drop-cons xs i d within ∙ ap (λ (n : ℕ). get_or xs i d ∷ drop n xs) next)) ∙ so_far

-- the set with one text more
pub more : (old new among : Bool) (F : Type 0) → new ≡ (old || among) → IsTrue among ↔ F → IsTrue new ↔ (IsTrue old ⊎ F)
more true new among F is both = (λ h. inl refl, λ h. is)
more false new among F is both = (λ h. inr (both.0 (sym is ∙ h)), λ h. is ∙ elim h [ inl n ↦ cc | inr f ↦ both.1 f ])

-- what was joined so far
pub gathered_push : (xs : List (Bor (List ℕ))) (x : Bor (List ℕ)) (fields : List (List ℕ)) → gathered (xs ++ x ∷ []) fields ≡ x.now ∷ gathered xs fields
gathered_push [] x fields = refl
gathered_push (y ∷ xs) x fields = gathered_push xs x (y.now ∷ fields)

pub join_more : (xs : List (Bor (List ℕ))) (at before : ℕ) (d : Bor (List ℕ)) (text dot both whole : List ℕ) → at ≡ before + 1 → before < length xs →
    dot ≡ text ++ codes "." → both ≡ dot ++ (get_or xs before d).now → joined text (fields_of (take at xs)) ≡ whole →
    joined both (fields_of (take before xs)) ≡ whole
join_more xs at before d text dot both whole one within dotted added so_far =
    let x = get_or xs before d in
    let last : take at xs ≡ take before xs ++ x ∷ [] =
    ap (λ (n : ℕ). take n xs) one ∙ take_more xs before x within ∙
    ap (λ (y : Bor (List ℕ)). take before xs ++ y ∷ []) (get_or_default xs before x d within) in
    ap (λ bs. joined bs (fields_of (take before xs))) (added ∙ ap (λ bs. bs ++ x.now) dotted ∙ append_assoc text (codes ".") x.now) ∙
    ap (λ fs. joined text fs) (sym (ap fields_of last ∙ gathered_push (take before xs) x [])) ∙ so_far
