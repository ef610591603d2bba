-- The one total order of values: undefined, none, numbers (false counts as 0, true as 1), texts by bytes,
-- bytes, lists and tuples by items, maps, keyword maps and modules by pairs, then functions, namespaces,
-- loops and macros by id and number.
use Rattle.std.specs.Prelude.{◌≡◌, ℕ, ℤ, pos, true, false, List, [], refl}
use Rattle.std.proofs.Common.{ap, sym, ◌∙◌, ◌⊎◌, inl, inr}
use Rattle.std.specs.declared.cmp.Ordering.{Ordering}
use Rattle.std.specs.declared.cmp.Ordering.TheVariants.{Less, Equal, Greater}
use Rattle.std.specs.Ordering.{int_cmp, nat_cmp, on, then_cmp, ordering_then, ordering_reverse}
use Rattle.std.specs.Cmp.{IsTotalOrder, int_cmp_total, on_total, then_total}
use Rattle.std.specs.Cmp.Lexicographic.{slice_cmp, nat_list_cmp_total}
use Rattle.template_values_model.specs.Val.{Val, Vals, Pairs, undefined, silent_undefined, none, truth, int, text, safe_text, bytes, list, tuple, map, keyword_map, «module», function, namespace, loop_record, macro_record, no_vals, vals_more, no_pairs, pairs_more}

-- what a value is compared by
pub data Key : Type 0 where
  leaf : ℤ → List ℕ → Key
  branch : Key → Key → Key

-- where a kind stands among the kinds
abbrev pub rank_of : Val → ℕ
rank_of undefined = 0
rank_of silent_undefined = 0
rank_of none = 1
rank_of (truth b) = 2
rank_of (int n) = 2
rank_of (text s) = 3
rank_of (safe_text s) = 3
rank_of (bytes s) = 4
rank_of (list vs) = 5
rank_of (tuple vs) = 5
rank_of (map ps) = 6
rank_of (keyword_map ps) = 6
rank_of («module» ps s) = 6
rank_of (function e n) = 7
rank_of (namespace e n) = 8
rank_of (loop_record e n) = 9
rank_of (macro_record e n) = 10

-- no further items
abbrev pub end : Key
end = leaf (pos 0) []

-- the rank of a kind, then two numbers, a text, the items and the pairs that a value of that kind has
abbrev pub ranked : ℤ → ℤ → ℤ → List ℕ → Key → Key → Key
ranked rank number second s items pairs =
    branch (leaf rank []) (branch (leaf number s) (branch (leaf second []) (branch items pairs)))

abbrev mutual
  pub key : Val → Key
  key undefined = ranked (pos (rank_of undefined)) (pos 0) (pos 0) [] end end
  key silent_undefined = ranked (pos (rank_of silent_undefined)) (pos 0) (pos 0) [] end end
  key none = ranked (pos (rank_of none)) (pos 0) (pos 0) [] end end
  key (truth false) = ranked (pos (rank_of (truth false))) (pos 0) (pos 0) [] end end
  key (truth true) = ranked (pos (rank_of (truth true))) (pos 1) (pos 0) [] end end
  key (int n) = ranked (pos (rank_of (int n))) n (pos 0) [] end end
  key (text s) = ranked (pos (rank_of (text s))) (pos 0) (pos 0) s end end
  key (safe_text s) = ranked (pos (rank_of (safe_text s))) (pos 0) (pos 0) s end end
  key (bytes s) = ranked (pos (rank_of (bytes s))) (pos 0) (pos 0) s end end
  key (list vs) = ranked (pos (rank_of (list vs))) (pos 0) (pos 0) [] (vals_key vs) end
  key (tuple vs) = ranked (pos (rank_of (tuple vs))) (pos 0) (pos 0) [] (vals_key vs) end
  key (map ps) = ranked (pos (rank_of (map ps))) (pos 0) (pos 0) [] end (pairs_key ps)
  key (keyword_map ps) = ranked (pos (rank_of (keyword_map ps))) (pos 0) (pos 0) [] end (pairs_key ps)
  key («module» ps s) = ranked (pos (rank_of («module» ps s))) (pos 0) (pos 0) [] end (pairs_key ps)
  key (function e n) = ranked (pos (rank_of (function e n))) (pos e) (pos n) [] end end
  key (namespace e n) = ranked (pos (rank_of (namespace e n))) (pos e) (pos n) [] end end
  key (loop_record e n) = ranked (pos (rank_of (loop_record e n))) (pos e) (pos n) [] end end
  key (macro_record e n) = ranked (pos (rank_of (macro_record e n))) (pos e) (pos n) [] end end

  pub vals_key : Vals → Key
  vals_key no_vals = end
  vals_key (vals_more v vs) = branch (key v) (vals_key vs)

  pub pairs_key : Pairs → Key
  pairs_key no_pairs = end
  pairs_key (pairs_more k v ps) = branch (key k) (branch (key v) (pairs_key ps))

-- a number, then bytes
abbrev pub leaf_cmp : ℤ × List ℕ → ℤ × List ℕ → Ordering
leaf_cmp = then_cmp (on (λ p. p.0) int_cmp) (on (λ p. p.1) (slice_cmp nat_cmp))

-- an end stands before what goes on; parts are compared in turn
abbrev pub key_cmp : Key → Key → Ordering
key_cmp (leaf n s) (leaf m t) = leaf_cmp (n, s) (m, t)
key_cmp (leaf n s) (branch c d) = Less
key_cmp (branch a b) (leaf m t) = Greater
key_cmp (branch a b) (branch c d) = ordering_then (key_cmp a c) (key_cmp b d)

abbrev pub val_cmp : Val → Val → Ordering
val_cmp = on key key_cmp

-- ---- its laws

leaf_total : IsTotalOrder leaf_cmp
leaf_total = then_total (on_total (λ p. p.0) int_cmp_total) (on_total (λ p. p.1) nat_list_cmp_total)

then_reverse : (p q : Ordering) → ordering_then (ordering_reverse p) (ordering_reverse q) ≡ ordering_reverse (ordering_then p q)
then_reverse Less q = refl
then_reverse Equal q = refl
then_reverse Greater q = refl

key_antisymm : (x y : Key) → key_cmp x y ≡ ordering_reverse (key_cmp y x)
key_antisymm (leaf n s) (leaf m t) = leaf_total.antisymm (n, s) (m, t)
key_antisymm (leaf n s) (branch c d) = refl
key_antisymm (branch a b) (leaf m t) = refl
key_antisymm (branch a b) (branch c d) = (λ i. ordering_then (key_antisymm a c i) (key_antisymm b d i))
    ∙ then_reverse (key_cmp c a) (key_cmp d b)

then_congr : (p q p' q' r s : Ordering) → (p ≡ Equal → p' ≡ r) → (q ≡ Equal → q' ≡ s) → ordering_then p q ≡ Equal → ordering_then p' q'
    ≡ ordering_then r s
then_congr Less q p' q' r s f g e = absurd (cc)
then_congr Equal q p' q' r s f g e = λ i. ordering_then (f refl i) (g e i)
then_congr Greater q p' q' r s f g e = absurd (cc)

key_congr : (x y z : Key) → key_cmp x y ≡ Equal → key_cmp x z ≡ key_cmp y z
key_congr (leaf n s) (leaf m t) (leaf k u) e = leaf_total.congr (n, s) (m, t) (k, u) e
key_congr (leaf n s) (leaf m t) (branch c d) e = refl
key_congr (leaf n s) (branch c d) z e = absurd (cc)
key_congr (branch a b) (leaf m t) z e = absurd (cc)
key_congr (branch a b) (branch c d) (leaf k u) e = refl
key_congr (branch a b) (branch c d) (branch f g) e =
    then_congr (key_cmp a c) (key_cmp b d) (key_cmp a f) (key_cmp b g) (key_cmp c f) (key_cmp d g) (key_congr a c f) (key_congr b d g) e

key_alike : (x y z : Key) → key_cmp x y ≡ Equal → key_cmp z x ≡ key_cmp z y
key_alike x y z e = key_antisymm z x ∙ ap ordering_reverse (key_congr x y z e) ∙ sym (key_antisymm z y)

-- parts that compare as less in turn do so at the first, or at the second where the first are equal
then_less : (p q : Ordering) → ordering_then p q ≡ Less → (p ≡ Less) ⊎ ((p ≡ Equal) × (q ≡ Less))
then_less Less q e = inl refl
then_less Equal q e = inr (refl, e)
then_less Greater q e = absurd (cc)

less_first : (p q : Ordering) → p ≡ Less → ordering_then p q ≡ Less
less_first p q e = ap (λ o. ordering_then o q) e

less_second : (p q : Ordering) → p ≡ Equal → q ≡ Less → ordering_then p q ≡ Less
less_second p q e f = ap (λ o. ordering_then o q) e ∙ f

key_trans : (x y z : Key) → key_cmp x y ≡ Less → key_cmp y z ≡ Less → key_cmp x z ≡ Less
key_trans (leaf n s) (leaf m t) (leaf k u) e f = leaf_total.trans (n, s) (m, t) (k, u) e f
key_trans (leaf n s) y (branch c d) e f = refl
key_trans (leaf n s) (branch a b) (leaf k u) e f = absurd (cc)
key_trans (branch a b) (leaf m t) z e f = absurd (cc)
key_trans (branch a b) (branch c d) (leaf k u) e f = absurd (cc)
key_trans (branch a b) (branch c d) (branch g h) e f = elim (then_less (key_cmp a c) (key_cmp b d) e) [
  | inl less ↦ elim (then_less (key_cmp c g) (key_cmp d h) f) [
    | inl later ↦ less_first (key_cmp a g) (key_cmp b h) (key_trans a c g less later)
    | inr later ↦ less_first (key_cmp a g) (key_cmp b h) (sym (key_alike c g a later.0) ∙ less)
  ]
  | inr less ↦ elim (then_less (key_cmp c g) (key_cmp d h) f) [
    | inl later ↦ less_first (key_cmp a g) (key_cmp b h) (key_congr a c g less.0 ∙ later)
    | inr later ↦ less_second (key_cmp a g) (key_cmp b h) (key_congr a c g less.0 ∙ later.0)
        (key_trans b d h less.1 later.1)
  ]
]

pub val_total : IsTotalOrder val_cmp
val_total = on_total key (record { antisymm = key_antisymm; trans = key_trans; congr = key_congr })
