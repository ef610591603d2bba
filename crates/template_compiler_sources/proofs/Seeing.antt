-- Names that differ, one after the other.
use Rattle.std.proofs.Common.{◌≡◌, ℕ, suc, drop, subst, Bool, true, false, not, ◌&&◌, ◌||◌, List, [], ◌∷◌, bytes_eq, refl, sym, ap, ◌∙◌, arith, IsTrue}
use Rattle.std.proofs.lemmas.Slice.Eq.{bytes_eq-Decides}
use Rattle.std.specs.Borrow.{Bor}
use Rattle.std.specs.List.{list_any}
use Rattle.std.specs.BTreeMap.{is_at}
use Rattle.std.specs.BTreeSet.{BTreeSet}
use Rattle.std.specs.Ordering.{nat_cmp}
use Rattle.std.specs.Cmp.Lexicographic.{slice_cmp}
use Rattle.template_compiler_sources.specs.Seen.{has_seen}
use Rattle.template_compiler_grammar.specs.TemplateTrees.{are_distinct}
use Rattle.template_compiler_sources.specs.Waiting.{texts_in}

exchanged : (a b c d : Bool) → ((a || b) || (c || d)) ≡ ((a || c) || (b || d))
exchanged true b c d = refl
exchanged false true true d = refl
exchanged false true false d = refl
exchanged false false c d = refl

and_true : (a : Bool) → (a && true) ≡ a
and_true true = refl
and_true false = refl

and_false : (a : Bool) → (a && false) ≡ false
and_false true = refl
and_false false = refl

moved : (a d f : Bool) → ((not a && d) && not f) ≡ (d && not (a || f))
moved true true f = refl
moved true false f = refl
moved false d f = refl

not_seen : (added seen : Bool) → added ≡ not seen → added ≡ true → seen ≡ false
not_seen added true e t = sym t ∙ e
not_seen added false e t = refl

was_seen : (added seen : Bool) → added ≡ not seen → added ≡ false → seen ≡ true
was_seen added true e t = refl
was_seen added false e t = sym t ∙ e

stopped : (a b d : Bool) → b ≡ true → (a && not (b || d)) ≡ false
stopped a true d e = and_false a
stopped a false d e = cc

any_seen : (f g : List ℕ → Bool) (n : List ℕ) (rest : List (Bor (List ℕ))) → ((q : List ℕ) → g q ≡ (bytes_eq q n || f q)) →
    list_any (λ m. g m.now) rest ≡ (list_any (λ t. bytes_eq t n) (texts_in rest) || list_any (λ m. f m.now) rest)
any_seen f g n [] h = refl
any_seen f g n (m ∷ rest) h =
    ap (λ b. b || list_any (λ m. g m.now) rest) (h m.now) ∙ ap (λ b. (bytes_eq m.now n || f m.now) || b) (any_seen f g n rest h) ∙
    exchanged (bytes_eq m.now n) (f m.now) (list_any (λ t. bytes_eq t n) (texts_in rest)) (list_any (λ m. f m.now) rest)

-- a name that was not seen is put among those that were
pub seen_next : (f g : List ℕ → Bool) (n : Bor (List ℕ)) (rest : List (Bor (List ℕ))) → f n.now ≡ false →
    ((q : List ℕ) → g q ≡ (bytes_eq q n.now || f q)) →
    (are_distinct (texts_in (n ∷ rest)) && not (list_any (λ m. f m.now) (n ∷ rest))) ≡
    (are_distinct (texts_in rest) && not (list_any (λ m. g m.now) rest))
seen_next f g n rest new h =
    ap (λ b. are_distinct (texts_in (n ∷ rest)) && not (b || list_any (λ m. f m.now) rest)) new ∙
    moved (list_any (λ t. bytes_eq t n.now) (texts_in rest)) (are_distinct (texts_in rest)) (list_any (λ m. f m.now) rest) ∙
    ap (λ b. are_distinct (texts_in rest) && not b) (sym (any_seen f g n.now rest h))

abbrev pub Left : List (Bor (List ℕ)) → (List ℕ → Bool) → ℕ → Bool
Left names f i = are_distinct (texts_in (drop i names)) && not (list_any (λ n. f n.now) (drop i names))

pub kept : (names : List (Bor (List ℕ))) (i j : ℕ) (n : Bor (List ℕ)) (added : Bool) (f g : List ℕ → Bool) (b : Bool) →
    drop i names ≡ n ∷ drop (suc i) names → added ≡ not (f n.now) → added ≡ true → ((q : List ℕ) → g q ≡ (bytes_eq q n.now || f q)) →
    Left names f i ≡ b → suc i ≡ j → Left names g j ≡ b
kept names i j n added f g b e a t h inv next =
    let new = not_seen added (f n.now) a t in
    subst (λ j. Left names g j ≡ b) next
    (sym (seen_next f g n (drop (suc i) names) new h) ∙ subst (λ l. (are_distinct (texts_in l) && not (list_any (λ n. f n.now) l)) ≡ b) e inv)

pub twice : (names : List (Bor (List ℕ))) (i : ℕ) (n : Bor (List ℕ)) (added : Bool) (f : List ℕ → Bool) (b : Bool) →
    drop i names ≡ n ∷ drop (suc i) names → added ≡ not (f n.now) → added ≡ false → Left names f i ≡ b → false ≡ b
twice names i n added f b e a t inv =
    let old = was_seen added (f n.now) a t in
    let here = subst (λ l. (are_distinct (texts_in l) && not (list_any (λ n. f n.now) l)) ≡ b) e inv in
    sym (stopped (are_distinct (texts_in (n ∷ drop (suc i) names))) (f n.now) (list_any (λ n. f n.now) (drop (suc i) names)) old) ∙ here

none_seen : (f : List ℕ → Bool) → ((q : List ℕ) → f q ≡ false) → (names : List (Bor (List ℕ))) → list_any (λ n. f n.now) names ≡ false
none_seen f none [] = refl
none_seen f none (n ∷ names) = ap (λ b. b || list_any (λ n. f n.now) names) (none n.now) ∙ none_seen f none names

pub at_first : (f : List ℕ → Bool) → ((q : List ℕ) → f q ≡ false) → (names : List (Bor (List ℕ))) → Left names f 0 ≡ are_distinct (texts_in names)
at_first f none names =
    ap (λ b. are_distinct (texts_in names) && not b) (none_seen f none names) ∙ and_true (are_distinct (texts_in names))

by_cases : (a b : Bool) → (IsTrue a → IsTrue b) → (IsTrue b → IsTrue a) → a ≡ b
by_cases true true h k = refl
by_cases true false h k = sym (h refl)
by_cases false true h k = k refl
by_cases false false h k = refl

pub turned : (x y : List ℕ) → bytes_eq x y ≡ bytes_eq y x
turned x y = by_cases (bytes_eq x y) (bytes_eq y x) (λ h. grind (arith, bytes_eq-Decides)) (λ h. grind (arith, bytes_eq-Decides))

pub unseen : (s : BTreeSet (Bor (List ℕ))) → s.keys ≡ [] → (q : List ℕ) → has_seen s q ≡ false
unseen s e q = ap (λ (ks : List (Bor (List ℕ))). list_any (λ k. is_at (λ other. slice_cmp nat_cmp q other.now) k) ks) e
