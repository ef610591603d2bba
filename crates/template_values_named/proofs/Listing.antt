-- The entries of a map of names, one after another.
use Rattle.std.proofs.Common.{◌≡◌, ◌∙◌, ap, sym, subst, refl, Bool, true, false, ◌||◌, cond, ℕ, List, [], ◌∷◌, ◌++◌, map, Option, Some, IsTrue, bytes_eq, string_bytes, Less}
use Rattle.std.specs.Prelude.{is_some, String}
use Rattle.std.specs.Borrow.{Bor}
use Rattle.std.specs.BTreeMap.{BTreeMap, IsOrdered}
use Rattle.std.specs.Cmp.Lexicographic.{slice_cmp}
use Rattle.std.specs.List.{list_any, AllByRecursion}
use Rattle.std.specs.List.Sorted.{IsStrictlySortedBy}
use Rattle.std.specs.Map.{keys_of}
use Rattle.std.specs.Map.Iter.{deref_pair}
use Rattle.std.specs.Ordering.{nat_cmp}
use Rattle.std.specs.String.{string_cmp}
use Rattle.std.specs.declared.alloc.Global.{Global}
use Rattle.template_values_model.specs.Val.{Val}
use Rattle.template_values_named.specs.Named.{local_at, named_in, pairs_named}

-- the list of the entries so far
abbrev pub shown : List (Bor (String Global) × Bor Val) → List (List ℕ × Val)
shown xs = pairs_named (map deref_pair xs)

-- one of them has the name
abbrev pub has_name : List ℕ → List (List ℕ × Val) → Bool
has_name q ls = list_any (λ l. bytes_eq l.0 q) ls

here_or_later : (b : Bool) (v : Val) (o : Option Val) → (b || is_some o) ≡ is_some (cond b (Some v) o)
here_or_later true v o = refl
here_or_later false v o = refl

pub name_found : (q : List ℕ) (ls : List (List ℕ × Val)) → has_name q ls ≡ is_some (local_at q ls)
name_found q [] = refl
name_found q (l ∷ ls) = ap (λ b. bytes_eq l.0 q || b) (name_found q ls) ∙ here_or_later (bytes_eq l.0 q) l.1 (local_at q ls)

or_false : (b : Bool) → (b || false) ≡ b
or_false true = refl
or_false false = refl

or_assoc : (a b c : Bool) → ((a || b) || c) ≡ (a || (b || c))
or_assoc true b c = refl
or_assoc false b c = refl

shown_push : (xs : List (Bor (String Global) × Bor Val)) (x : Bor (String Global) × Bor Val)
    → shown (xs ++ x ∷ []) ≡ shown xs ++ (string_bytes x.0.now, x.1.now) ∷ []
shown_push [] x = refl
shown_push (y ∷ xs) x = ap (λ ls. (string_bytes y.0.now, y.1.now) ∷ ls) (shown_push xs x)

any_push : (q : List ℕ) (ls : List (List ℕ × Val)) (l : List ℕ × Val) → has_name q (ls ++ l ∷ []) ≡ (has_name q ls || bytes_eq l.0 q)
any_push q [] l = or_false (bytes_eq l.0 q)
any_push q (k ∷ ls) l =
    ap (λ b. bytes_eq k.0 q || b) (any_push q ls l) ∙ sym (or_assoc (bytes_eq k.0 q) (has_name q ls) (bytes_eq l.0 q))

-- one more
pub more_named : (q : List ℕ) (xs : List (Bor (String Global) × Bor Val)) (x : Bor (String Global) × Bor Val) (old before new : Bool)
    → before ≡ (old || has_name q (shown xs)) → new ≡ (before || bytes_eq (string_bytes x.0.now) q) → new ≡ (old || has_name q (shown (xs ++ x ∷ [])))
more_named q xs x old before new so_far step =
    step ∙ ap (λ b. b || bytes_eq (string_bytes x.0.now) q) so_far ∙ or_assoc old (has_name q (shown xs)) (bytes_eq (string_bytes x.0.now) q)
    ∙ ap (λ b. old || b) (sym (any_push q (shown xs) (string_bytes x.0.now, x.1.now)) ∙ ap (has_name q) (sym (shown_push xs x)))

or_more : (a b c : Bool) → (IsTrue b → IsTrue c) → IsTrue (a || b) → IsTrue (a || c)
or_more true b c more h = refl
or_more false b c more h = more h

-- a name of the first is one of all
named_first : (q : List ℕ) (es rest : List (String Global × Val)) → IsTrue (has_name q (pairs_named es)) → IsTrue (has_name q (pairs_named (es ++ rest)))
named_first q [] rest h = cc
named_first q (e ∷ es) rest h =
    or_more (bytes_eq (string_bytes e.0) q) (has_name q (pairs_named es)) (has_name q (pairs_named (es ++ rest))) (named_first q es rest) h

-- those so far came to the others, and no more
pub some_kept : (old so_far new : Bool) → new ≡ (old || so_far) → IsTrue old → IsTrue new
some_kept old so_far new is h = is ∙ ap (λ b. b || so_far) h

pub some_named : (q : List ℕ) (xs : List (Bor (String Global) × Bor Val)) (all rest : List (String Global × Val)) (old new : Bool)
    → all ≡ map deref_pair xs ++ rest → new ≡ (old || has_name q (shown xs)) → IsTrue new → IsTrue (old || is_some (local_at q (pairs_named all)))
some_named q xs all rest old new whole is h =
    or_more old (has_name q (shown xs)) (is_some (local_at q (pairs_named all))) (λ some. sym (name_found q (pairs_named all))
    ∙ ap (λ es. has_name q (pairs_named es)) whole ∙ named_first q (map deref_pair xs) rest some) (sym is ∙ h)

-- the names ascend as the keys do
all_below : (k : String Global) (es : List (String Global × Val)) → AllByRecursion (λ y. string_cmp k y ≡ Less) (keys_of es)
    → AllByRecursion (λ y. slice_cmp nat_cmp (string_bytes k) y ≡ Less) (keys_of (pairs_named es))
all_below k [] below = below
all_below k (e ∷ es) below = (below.0, all_below k es below.1)

names_ascend : (es : List (String Global × Val)) → IsStrictlySortedBy string_cmp (keys_of es)
    → IsStrictlySortedBy (slice_cmp nat_cmp) (keys_of (pairs_named es))
unfolding IsStrictlySortedBy
names_ascend [] ordered = ordered
names_ascend (e ∷ es) ordered = (all_below e.0 es ordered.0, names_ascend es ordered.1)

names_of : (xs : List (Bor (List ℕ) × Bor Val)) → map (λ e. e.0.now) xs ≡ keys_of (map deref_pair xs)
names_of [] = refl
names_of (x ∷ xs) = ap (λ ns. x.0.now ∷ ns) (names_of xs)

pub entries_ascend : (xs : List (Bor (List ℕ) × Bor Val)) (m : BTreeMap (String Global) Val) → IsOrdered string_cmp m → map deref_pair xs ≡ named_in m
    → IsStrictlySortedBy (slice_cmp nat_cmp) (map (λ e. e.0.now) xs)
entries_ascend xs m ordered all =
    subst (IsStrictlySortedBy (slice_cmp nat_cmp)) (sym (names_of xs ∙ ap keys_of all)) (names_ascend m.entries ordered)
