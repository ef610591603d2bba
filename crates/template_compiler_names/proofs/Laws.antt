-- How walks go one behind the other, and in regions.
use Rattle.std.proofs.Common.{Result, Ok, Err, OnOk, bytes_eq, ◌≡◌, ℕ, zero, suc, ◌+◌, ◌<◌, ◌≤◌, arith, Bool, true, false, not, ◌&&◌, ◌||◌, List, [], ◌∷◌, ◌++◌, append_assoc, append-nil, length, drop, take, get_or, Bor, IsTrue, inl, inr, ◌⊎◌, refl, sym, ap, subst, ◌∙◌}
use Rattle.std.specs.List.{list_any}
use Rattle.std.proofs.Math.Seq.{drop-cons}
use Rattle.std.specs.BTreeSet.{BTreeSet}
use Rattle.std.proofs.lemmas.Slice.Eq.{bytes_eq-Decides}
use Rattle.template_compiler_names.specs.Names.{IsToldFor, Places, anywhere}
use Rattle.template_compiler_names.specs.declared.state.Around.{Around}
use Rattle.template_compiler_names.specs.declared.state.Names.{Names}
use Rattle.template_compiler_names.specs.Among.{Among, is_among, nothing}
use Rattle.template_compiler_names.specs.Goes.{Closes, Goes, IsAside, IsBack, IsFound, Opens, has, knows, knows_further, no_place}

pub or_false : (b : Bool) → (b || false) ≡ b
or_false true = refl
or_false false = refl

pub or_assoc : (a b c : Bool) → (a || (b || c)) ≡ ((a || b) || c)
or_assoc true b c = refl
or_assoc false b c = refl

pub and_false : (b : Bool) → (b && false) ≡ false
and_false true = refl
and_false false = refl

-- what a text is told for
used_first : (k s u v : Bool) → IsTrue (not k && u) → IsTrue (not k && (u || (not s && v)))
used_first true s u v h = cc
used_first false s true v h = refl
used_first false s false v h = cc

used_second : (k s u v : Bool) → IsTrue (not (k || s) && v) → IsTrue (not k && (u || (not s && v)))
used_second true s u v h = cc
used_second false true u v h = cc
used_second false false true v h = refl
used_second false false false v h = h

used_once : (k s u v : Bool) → IsTrue (not k && (u || (not s && v))) → IsTrue (not k && u) ⊎ IsTrue (not (k || s) && v)
used_once true s u v h = cc
used_once false s true v h = inl refl
used_once false true false v h = cc
used_once false false false v h = inr h

-- nothing is found where no place is used
none_found : (a : Names) (q : List ℕ) → IsFound a no_place q → ⊥
none_found a q f = let none = sym (and_false (not (knows a f.0.name))) ∙ f.2 in cc

-- what is found, where the same is known and told
found_as : {u v : Places → Bool} (a b : Names) → b.nested ≡ a.nested → ((n : List ℕ) → knows b n ≡ knows a n) → ((p : Places) → u p ≡ v p) →
    (q : List ℕ) → IsFound b u q → IsFound a v q
found_as {u} {v} a b nested known same q f = (
  f.0,
  subst (λ n. IsToldFor n q f.0) nested f.1,
  ap (λ k. not k && v f.0) (sym (known f.0.name)) ∙ ap (λ x. not (knows b f.0.name) && x) (sym (same f.0)) ∙ f.2,
)

pub goes_nowhere : (a : Names) → Goes no_place nothing a a
goes_nowhere a = record {
  found = λ q. (λ i. inl i, λ h. elim h [ inl i ↦ i | inr f ↦ absurd (none_found a q f) ]);
  knows = λ q. sym (or_false (knows a q));
  few = ([], sym (append-nil a.few.items));
  outer = refl;
  nested = refl;
}

pub goes_then : {u : Places → Bool} {s : Among} {v : Places → Bool} {t : Among} (a b c : Names) → Goes u s a b → Goes v t b c →
    Goes (λ p. u p || (not (s p.name) && v p)) (λ q. s q || t q) a c
goes_then {u} {s} {v} {t} a b c first second = record {
  found = λ q. (
    λ h. elim ((second.found q).0 h) [
      | inl i ↦ elim ((first.found q).0 i) [
        | inl o ↦ inl o
        | inr f ↦ inr (f.0, f.1, used_first (knows a f.0.name) (s f.0.name) (u f.0) (v f.0) f.2)
      ]
      | inr f ↦ inr (
        f.0,
        subst (λ n. IsToldFor n q f.0) first.nested f.1,
        used_second (knows a f.0.name) (s f.0.name) (u f.0) (v f.0) (ap (λ k. not k && v f.0) (sym (first.knows f.0.name)) ∙ f.2),
      )
    ],
    λ h. elim h [
      | inl o ↦ (second.found q).1 (inl ((first.found q).1 (inl o)))
      | inr f ↦ elim (used_once (knows a f.0.name) (s f.0.name) (u f.0) (v f.0) f.2) [
        | inl i ↦ (second.found q).1 (inl ((first.found q).1 (inr (f.0, f.1, i))))
        | inr i ↦ (second.found q).1 (inr (
          f.0,
          subst (λ n. IsToldFor n q f.0) (sym first.nested) f.1,
          ap (λ k. not k && v f.0) (first.knows f.0.name) ∙ i,
        ))
      ]
    ],
  );
  knows = λ q. second.knows q ∙ ap (λ h. h || t q) (first.knows q) ∙ sym (or_assoc (knows a q) (s q) (t q));
  few = (
    first.few.0 ++ second.few.0,
    second.few.1 ∙ ap (λ (names : List (Bor (List ℕ))). names ++ second.few.0) first.few.1 ∙ append_assoc a.few.items first.few.0 second.few.0,
  );
  outer = second.outer ∙ first.outer;
  nested = second.nested ∙ first.nested;
}

pub goes_as : {u : Places → Bool} {s : Among} {v : Places → Bool} {t : Among} {a b : Names} → ((p : Places) → u p ≡ v p) → ((q : List ℕ) → s q ≡ t q) →
    Goes u s a b → Goes v t a b
goes_as {u} {s} {v} {t} {a} {b} uses stores goes = record {
  found = λ q. (
    λ h. elim ((goes.found q).0 h) [ inl i ↦ inl i | inr f ↦ inr (found_as a a refl (λ n. refl) uses q f) ],
    λ h. (goes.found q).1 (elim h [ inl i ↦ inl i | inr f ↦ inr (found_as a a refl (λ n. refl) (λ p. sym (uses p)) q f) ]),
  );
  knows = λ q. goes.knows q ∙ ap (λ x. knows a q || x) (stores q);
  few = goes.few;
  outer = goes.outer;
  nested = goes.nested;
}

-- where nothing is stored
pub uses_then : {u v : Places → Bool} (a b c : Names) → Goes u nothing a b → Goes v nothing b c → Goes (λ p. u p || v p) nothing a c
uses_then a b c first second = goes_as (λ p. refl) (λ q. refl) (goes_then a b c first second)

pub uses_as : {u v : Places → Bool} {a b : Names} → ((p : Places) → u p ≡ v p) → Goes u nothing a b → Goes v nothing a b
uses_as uses goes = goes_as uses (λ q. refl) goes

take_front : (xs more : List (Bor (List ℕ))) → take (length xs) (xs ++ more) ≡ xs
take_front [] more = refl
take_front (x ∷ xs) more = ap (λ (ys : List (Bor (List ℕ))). x ∷ ys) (take_front xs more)

-- where names alone are told, it does not matter what stands behind them
plain_found : (u v : Places → Bool) (a : Names) → a.nested ≡ false → ((id : List ℕ) → u (anywhere id) ≡ v (anywhere id)) →
    (q : List ℕ) → IsFound a u q → IsFound a v q
plain_found u v a flat same q f =
    let told : f.0 ≡ anywhere q = subst (λ n. IsToldFor n q f.0) flat f.1 in
    let uses : u f.0 ≡ v f.0 = ap u told ∙ same q ∙ sym (ap v told) in
    (f.0, f.1, ap (λ b. not (knows a f.0.name) && b) (sym uses) ∙ f.2)

pub uses_plain : {u v : Places → Bool} (a b : Names) → a.nested ≡ false → ((id : List ℕ) → u (anywhere id) ≡ v (anywhere id)) →
    Goes u nothing a b → Goes v nothing a b
uses_plain {u} {v} a b flat same goes = record {
  found = λ q. (
    λ h. elim ((goes.found q).0 h) [ inl i ↦ inl i | inr f ↦ inr (plain_found u v a flat same q f) ],
    λ h. (goes.found q).1 (elim h [ inl i ↦ inl i | inr f ↦ inr (plain_found v u a flat (λ id. sym (same id)) q f) ]),
  );
  knows = goes.knows;
  few = goes.few;
  outer = goes.outer;
  nested = goes.nested;
}

-- what is stored in a region is forgotten
any_push : (q : List ℕ) (xs : List (BTreeSet (Bor (List ℕ)))) (x : BTreeSet (Bor (List ℕ))) →
    list_any (λ region. has region q) (xs ++ x ∷ []) ≡ (list_any (λ region. has region q) xs || has x q)
any_push q [] x = or_false (has x q)
any_push q (y ∷ xs) x =
    ap (λ b. has y q || b) (any_push q xs x) ∙ or_assoc (has y q) (list_any (λ region. has region q) xs) (has x q)

regions_inside : (aside : Bool) (a b : Names) → IsAside aside a b → ((q : List ℕ) → has b.here q ≡ false) →
    (q : List ℕ) → knows_further b q ≡ knows_further a q
regions_inside true a b opens here q =
    ap (λ (regions : List (BTreeSet (Bor (List ℕ)))). list_any (λ region. has region q) regions || has b.here q) opens ∙
    ap (λ h. list_any (λ region. has region q) (a.outer.items ++ a.here ∷ []) || h) (here q) ∙
    or_false (list_any (λ region. has region q) (a.outer.items ++ a.here ∷ [])) ∙ any_push q a.outer.items a.here
regions_inside false a b opens here q =
    ap (λ (regions : List (BTreeSet (Bor (List ℕ)))). list_any (λ region. has region q) regions || has b.here q) opens.0 ∙
    ap (λ h. list_any (λ region. has region q) a.outer.items || h) (here q ∙ sym (opens.1 q))

knows_inside : (a b : Names) (m : Around) → Opens a b m → (q : List ℕ) → knows b q ≡ knows a q
knows_inside a b m opens q =
    ap (λ (names : List (Bor (List ℕ))). is_among names q || knows_further b q) opens.few ∙
    ap (λ k. is_among a.few.items q || k) (regions_inside m.aside a b opens.aside opens.here q)

-- the regions around are as they were
outer_after : (aside : Bool) (a b c d : Names) → IsAside aside a b → c.outer.items ≡ b.outer.items → IsBack aside c d → d.outer.items ≡ a.outer.items
outer_after true a b c d opens same closes = (closes a.outer.items a.here (same ∙ opens)).0
outer_after false a b c d opens same closes = closes.0 ∙ same ∙ opens.0

here_after : (aside : Bool) (a b c d : Names) → IsAside aside a b → c.outer.items ≡ b.outer.items → IsBack aside c d → (q : List ℕ) → has d.here q ≡ has a.here q
here_after true a b c d opens same closes q =
    ap (λ (region : BTreeSet (Bor (List ℕ))). has region q) (closes a.outer.items a.here (same ∙ opens)).1
here_after false a b c d opens same closes q = closes.1 q ∙ sym (opens.1 q)

few_after : (xs ys more zs : List (Bor (List ℕ))) (n : ℕ) → n ≡ length xs → ys ≡ xs ++ more → zs ≡ take n ys → zs ≡ xs
few_after xs ys more zs n count more_is taken =
    taken ∙ ap (λ (names : List (Bor (List ℕ))). take n names) more_is ∙ ap (λ (k : ℕ). take k (xs ++ more)) count ∙ take_front xs more

pub goes_inside : {u : Places → Bool} {s : Among} (a b c d : Names) (m : Around) → Opens a b m → Goes u s b c → Closes m c d → Goes u nothing a d
goes_inside {u} {s} a b c d m opens goes closes =
    let few : d.few.items ≡ a.few.items = few_after a.few.items c.few.items goes.few.0 d.few.items m.few opens.count
    (goes.few.1 ∙ ap (λ (names : List (Bor (List ℕ))). names ++ goes.few.0) opens.few) closes.few in
    let outer = outer_after m.aside a b c d opens.aside goes.outer closes.back in
    let here = here_after m.aside a b c d opens.aside goes.outer closes.back in
    record {
      found = λ q. (
        λ h. elim ((goes.found q).0 (sym (closes.keeps.found q) ∙ h)) [
          | inl i ↦ inl (sym (opens.keeps.found q) ∙ i)
          | inr f ↦ inr (found_as a b opens.keeps.nested (knows_inside a b m opens) (λ p. refl) q f)
        ],
        λ h. closes.keeps.found q ∙ (goes.found q).1 (elim h [
          | inl i ↦ inl (opens.keeps.found q ∙ i)
          | inr f ↦ inr (found_as b a (sym opens.keeps.nested) (λ n. sym (knows_inside a b m opens n)) (λ p. refl) q f)
        ]),
      );
      knows = λ q.
          ap (λ (names : List (Bor (List ℕ))). is_among names q || knows_further d q) few ∙
          ap (λ (regions : List (BTreeSet (Bor (List ℕ)))). is_among a.few.items q || (list_any (λ region. has region q) regions || has d.here q)) outer ∙
          ap (λ h. is_among a.few.items q || (list_any (λ region. has region q) a.outer.items || h)) (here q) ∙ sym (or_false (knows a q));
      few = ([], few ∙ sym (append-nil a.few.items));
      outer = outer;
      nested = closes.keeps.nested ∙ goes.nested ∙ opens.keeps.nested;
    }

-- a list from an item on
pub drop_at : {A : Type 0} (xs : List A) (i : ℕ) (x : A) → i < length xs → x ≡ get_or xs i x → drop i xs ≡ x ∷ drop (i + 1) xs
drop_at xs i x within read =
    let more : suc i ≡ i + 1 = omega arith in
    drop-cons xs i x within ∙ ap (λ (n : ℕ). get_or xs i x ∷ drop n xs) more ∙ ap (λ y. y ∷ drop (i + 1) xs) (sym read)

pub drop_none : {A : Type 0} (xs : List A) (i : ℕ) → length xs ≤ i → drop i xs ≡ []
drop_none [] zero h = refl
drop_none [] (suc i) h = refl
drop_none (x ∷ xs) zero h = absurd (omega (arith, h))
drop_none (x ∷ xs) (suc i) h = drop_none xs i (omega (arith, h))

-- the items of a list, one behind the other: what is left of them ends as all of them do
module _ {A : Type 0} (uses : A → Places → Bool) (all : List A → Places → Bool) (more : (x : A) (xs : List A) (p : Places) → (uses x p || all xs p) ≡ all (x ∷ xs) p) where
  pub uses_item : {G : Names → Type 0} (xs : List A) (i : ℕ) (x : A) (a b : Names) → i < length xs → x ≡ get_or xs i x →
      ((c : Names) → Goes (all (drop i xs)) nothing a c → G c) → Goes (uses x) nothing a b →
      (c : Names) → Goes (all (drop (i + 1) xs)) nothing b c → G c
  uses_item xs i x a b within read ends step c rest =
      ends c (uses_as (λ p. more x (drop (i + 1) xs) p ∙ ap (λ (ys : List A). all ys p) (sym (drop_at xs i x within read))) (uses_then a b c step rest))

pub uses_end : {A : Type 0} (all : List A → Places → Bool) → ((p : Places) → all [] p ≡ false) → {G : Names → Type 0} (xs : List A) (i : ℕ) (a : Names) →
    length xs ≤ i → ((c : Names) → Goes (all (drop i xs)) nothing a c → G c) → G a
uses_end {A} all none xs i a past ends =
    ends a (uses_as (λ p. sym (none p) ∙ ap (λ (ys : List A). all ys p) (sym (drop_none xs i past))) (goes_nowhere a))

-- the same where names are stored
module _ {A : Type 0} (uses : A → Places → Bool) (stores : A → Among) (all : List A → Places → Bool) (kept : List A → Among)
    (more : (x : A) (xs : List A) (p : Places) → (uses x p || (not (stores x p.name) && all xs p)) ≡ all (x ∷ xs) p)
    (keeps : (x : A) (xs : List A) (q : List ℕ) → (stores x q || kept xs q) ≡ kept (x ∷ xs) q) where
  pub goes_item : {G : Names → Type 0} (xs : List A) (i : ℕ) (x : A) (a b : Names) → i < length xs → x ≡ get_or xs i x →
      ((c : Names) → Goes (all (drop i xs)) (kept (drop i xs)) a c → G c) → Goes (uses x) (stores x) a b →
      (c : Names) → Goes (all (drop (i + 1) xs)) (kept (drop (i + 1) xs)) b c → G c
  goes_item xs i x a b within read ends step c rest =
      let at = sym (drop_at xs i x within read) in
      ends c (goes_as (λ p. more x (drop (i + 1) xs) p ∙ ap (λ (ys : List A). all ys p) at)
      (λ q. keeps x (drop (i + 1) xs) q ∙ ap (λ (ys : List A). kept ys q) at) (goes_then a b c step rest))

pub goes_end : {A : Type 0} (all : List A → Places → Bool) (kept : List A → Among) → ((p : Places) → all [] p ≡ false) → ((q : List ℕ) → kept [] q ≡ false) →
    {G : Names → Type 0} (xs : List A) (i : ℕ) (a : Names) → length xs ≤ i →
    ((c : Names) → Goes (all (drop i xs)) (kept (drop i xs)) a c → G c) → G a
goes_end {A} all kept none empty xs i a past ends =
    let at = sym (drop_none xs i past) in
    ends a (goes_as (λ p. sym (none p) ∙ ap (λ (ys : List A). all ys p) at) (λ q. sym (empty q) ∙ ap (λ (ys : List A). kept ys q) at) (goes_nowhere a))

-- the same, if the walk has come to its end
pub goes_on : {T E : Type 0} {u : Places → Bool} {s : Among} {v : Places → Bool} {t : Among} (a b : Names) (r : Result T E) →
    ((p : Places) → u p ≡ v p) → ((q : List ℕ) → s q ≡ t q) → OnOk r (Goes u s a b) → OnOk r (Goes v t a b)
goes_on a b (Ok value) uses stores goes = goes_as uses stores goes
goes_on a b (Err error) uses stores goes = tt

pub uses_on : {T E : Type 0} {u v : Places → Bool} (a b : Names) (r : Result T E) → ((p : Places) → u p ≡ v p) →
    OnOk r (Goes u nothing a b) → OnOk r (Goes v nothing a b)
uses_on a b (Ok value) uses goes = uses_as uses goes
uses_on a b (Err error) uses goes = tt

pub uses_then_on : {T E : Type 0} {u w : Places → Bool} (v : Places → Bool) (a b c : Names) (r : Result T E) → Goes u nothing a b →
    OnOk r (Goes v nothing b c) → ((p : Places) → (u p || v p) ≡ w p) → OnOk r (Goes w nothing a c)
uses_then_on v a b c (Ok value) first second uses = uses_as uses (uses_then a b c first second)
uses_then_on v a b c (Err error) first second uses = tt

pub goes_then_on : {T E : Type 0} {u : Places → Bool} {s : Among} {w : Places → Bool} {y : Among} (v : Places → Bool) (t : Among) (a b c : Names) (r : Result T E) →
    Goes u s a b → OnOk r (Goes v t b c) → ((p : Places) → (u p || (not (s p.name) && v p)) ≡ w p) → ((q : List ℕ) → (s q || t q) ≡ y q) →
    OnOk r (Goes w y a c)
goes_then_on v t a b c (Ok value) first second uses stores = goes_as uses stores (goes_then a b c first second)
goes_then_on v t a b c (Err error) first second uses stores = tt

pub on_ok : {T E P Q : Type 0} (r : Result T E) → (P → Q) → OnOk r P → OnOk r Q
on_ok (Ok value) f h = f h
on_ok (Err error) f h = tt

-- names are equal from either side
by_cases : (a b : Bool) → (a ≡ true → b ≡ true) → (b ≡ true → a ≡ true) → a ≡ b
by_cases true true h k = refl
by_cases true false h k = sym (h refl)
by_cases false true h k = k refl
by_cases false false h k = refl

pub turned : (x y : List ℕ) → bytes_eq x y ≡ bytes_eq y x
turned x y = by_cases (bytes_eq x y) (bytes_eq y x) (λ h. grind (arith, bytes_eq-Decides)) (λ h. grind (arith, bytes_eq-Decides))
