-- What stands among entries, by order of their keys.
use Rattle.std.proofs.Common.{◌≡◌, ◌∙◌, ap, sym, refl, ℕ, suc, cond, List, [], ◌∷◌, Some, map, bytes_eq, string_bytes}
use Rattle.std.specs.BTreeMap.{BTreeMap, get_by_text, is_at, IsOrdered}
use Rattle.std.specs.Cmp.Lexicographic.{slice_cmp}
use Rattle.std.specs.List.{find, slice_get, AllByRecursion}
use Rattle.std.specs.List.Sorted.{IsStrictlySortedBy}
use Rattle.std.specs.Map.{keys_of, lookup, values_of}
use Rattle.std.specs.Option.{ForSome}
use Rattle.std.specs.Ordering.{nat_cmp, is_eq}
use Rattle.std.specs.declared.cmp.Ordering.TheVariants.{Less}
use Rattle.std.specs.Prelude.{String}
use Rattle.std.specs.String.{string_cmp, string_cmp_total}
use Rattle.std.specs.declared.alloc.Global.{Global}
use Rattle.std.proofs.lemmas.Map.Entries.{btree_map_get_place}
use Rattle.std.proofs.lemmas.Map.Text.{is_eq-slice_cmp}

-- each entry stands under its own name
abbrev pub AreNamed : {X : Type 0} → (X → List ℕ) → List (String Global × X) → Type 0
AreNamed {X} name es = (i : ℕ) (k : String Global) (v : X) → slice_get es i ≡ Some (k, v) → name v ≡ string_bytes k

-- the first of a name is the one that the name finds
pub found_among : {X : Type 0} (name : X → List ℕ) (es : List (String Global × X)) → AreNamed name es → (q : List ℕ)
    → find (λ x. bytes_eq q (name x)) (values_of es) ≡ lookup (is_at (λ k. slice_cmp nat_cmp q (string_bytes k))) es
found_among name [] named q = refl
found_among {X} name (e ∷ es) named q =
    let test : bytes_eq q (name e.1) ≡ is_eq (slice_cmp nat_cmp q (string_bytes e.0)) =
    ap (bytes_eq q) (named 0 e.0 e.1 refl) ∙ sym (is_eq-slice_cmp q (string_bytes e.0)) in
    let later = found_among name es (λ i k v at. named (suc i) k v at) q in
    λ i. cond (test i) (Some e.1) (later i)

-- the names ascend as the keys do
all_below : {X : Type 0} (name : X → List ℕ) (k : String Global) (own : List ℕ) → own ≡ string_bytes k → (es : List (String Global × X)) → AreNamed name es
    → AllByRecursion (λ y. string_cmp k y ≡ Less) (keys_of es) → AllByRecursion (λ y. slice_cmp nat_cmp own y ≡ Less) (map name (values_of es))
all_below name k own same [] named below = below
all_below name k own same (e ∷ es) named below =
    ((λ i. slice_cmp nat_cmp (same i) (named 0 e.0 e.1 refl i)) ∙ below.0, all_below name k own same es (λ i k v at. named (suc i) k v at) below.1)

pub names_ascend : {X : Type 0} (name : X → List ℕ) (es : List (String Global × X)) → AreNamed name es
    → IsStrictlySortedBy string_cmp (keys_of es) → IsStrictlySortedBy (slice_cmp nat_cmp) (map name (values_of es))
unfolding IsStrictlySortedBy
names_ascend name [] named ordered = ordered
names_ascend name (e ∷ es) named ordered = (
  all_below name e.0 (name e.1) (named 0 e.0 e.1 refl) es (λ i k v at. named (suc i) k v at) ordered.0,
  names_ascend name es (λ i k v at. named (suc i) k v at) ordered.1,
)

-- where each look-up finds one of its name
pub are_named : {X : Type 0} (name : X → List ℕ) (m : BTreeMap (String Global) X) → IsOrdered string_cmp m
    → ((q : List ℕ) → ForSome (get_by_text m q) (λ x. name x ≡ q)) → AreNamed name m.entries
are_named name m ordered named i k v at =
    named (string_bytes k) v (btree_map_get_place string_cmp_total m i k v ordered at)
