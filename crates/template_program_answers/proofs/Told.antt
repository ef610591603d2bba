-- Sets of the same names are told by the same bytes.
use Rattle.std.proofs.Common.{◌≡◌, ◌∙◌, ℕ, Bool, true, false, ◌||◌, List, [], ◌∷◌, ◌++◌, IsTrue, ◌↔◌, if◌then◌else◌, map, String, string_bytes, refl, sym, ap}
use Rattle.std.specs.BTreeSet.{BTreeSet, IsOrdered, contains_text}
use Rattle.std.specs.BTreeMap.{is_at}
use Rattle.std.specs.Cmp.Lexicographic.{slice_cmp}
use Rattle.std.specs.List.{AllByRecursion, list_any}
use Rattle.std.specs.List.Sorted.{IsStrictlySortedBy}
use Rattle.std.specs.Ordering.{is_eq, nat_cmp}
use Rattle.std.specs.String.{string_cmp}
use Rattle.std.specs.declared.cmp.Ordering.TheVariants.{Less}
use Rattle.std.proofs.lemmas.Cmp.{nat_list_cmp_total}
use Rattle.std.proofs.lemmas.Map.Lookups.{CmpEqualImpliesEq, btree_set_from_contains}
use Rattle.std.proofs.lemmas.Map.Text.{is_eq-slice_cmp}
use Rattle.std.proofs.lemmas.Slice.Eq.{bytes_eq-Decides}
use Rattle.serde_json.specs.Data.{array, string}
use Rattle.serde_json.specs.View.{items_of}
use Rattle.serde_json.specs.Written.{compact_text}
use Rattle.template_program_run.specs.Lines.{line_of, lines_of, strings_of, told_names}

-- texts that compare equal are equal
exact : CmpEqualImpliesEq (slice_cmp nat_cmp)
exact x y equal = (bytes_eq-Decides x y).0 (sym (is_eq-slice_cmp x y) ∙ ap is_eq equal)

-- the texts ascend as the names do
all_below : {A : Type 0} (first : String A) (names : List (String A)) → AllByRecursion (λ y. string_cmp first y ≡ Less) names
    → AllByRecursion (λ y. slice_cmp nat_cmp (string_bytes first) y ≡ Less) (map string_bytes names)
all_below first [] below = below
all_below first (name ∷ names) below = (below.0, all_below first names below.1)

texts_ascend : {A : Type 0} (names : List (String A)) → IsStrictlySortedBy string_cmp names
    → IsStrictlySortedBy (slice_cmp nat_cmp) (map string_bytes names)
unfolding IsStrictlySortedBy
texts_ascend [] ordered = ordered
texts_ascend (name ∷ names) ordered = (all_below name names ordered.0, texts_ascend names ordered.1)

-- a text is found among the texts where it is found among the names
found_alike : {A : Type 0} (q : List ℕ) (names : List (String A))
    → list_any (is_at (slice_cmp nat_cmp q)) (map string_bytes names) ≡ list_any (is_at (λ k. slice_cmp nat_cmp q (string_bytes k))) names
found_alike q [] = refl
found_alike q (name ∷ names) = ap (λ b. is_eq (slice_cmp nat_cmp q (string_bytes name)) || b) (found_alike q names)

-- truth values that hold at once are equal
both_or_none : (a b : Bool) → IsTrue a ↔ IsTrue b → a ≡ b
both_or_none true true same = refl
both_or_none true false same = let wrong = same.0 refl in cc
both_or_none false true same = let wrong = same.1 refl in cc
both_or_none false false same = refl

same_texts : {A B : Type 0} (names : BTreeSet (String A)) (others : BTreeSet (String B)) → IsOrdered string_cmp names → IsOrdered string_cmp others
    → ((name : List ℕ) → contains_text names name ≡ contains_text others name) → map string_bytes names.keys ≡ map string_bytes others.keys
same_texts names others ordered ascend same =
    let one : BTreeSet (List ℕ) = record { keys = map string_bytes names.keys } in
    let other : BTreeSet (List ℕ) = record { keys = map string_bytes others.keys } in
    btree_set_from_contains nat_list_cmp_total one other (texts_ascend names.keys ordered) (texts_ascend others.keys ascend)
    (λ q. found_alike q names.keys ∙ same q ∙ sym (found_alike q others.keys)) exact

-- the lines, and the items of JSON, are those of the texts
abbrev lines_in : List (List ℕ) → List ℕ
lines_in [] = []
lines_in (text ∷ texts) = line_of text ++ lines_in texts

lines_are : {A : Type 0} (names : List (String A)) → lines_of names ≡ lines_in (map string_bytes names)
lines_are [] = refl
lines_are (name ∷ names) = ap (λ rest. line_of (string_bytes name) ++ rest) (lines_are names)

strings_are : {A : Type 0} (names : List (String A)) → strings_of names ≡ map string (map string_bytes names)
strings_are [] = refl
strings_are (name ∷ names) = ap (λ rest. string (string_bytes name) ∷ rest) (strings_are names)

-- what is told is what is told of the texts
abbrev told_in : Bool → List (List ℕ) → List ℕ
told_in as_json texts = if as_json then line_of (compact_text (array (items_of (map string texts)))) else lines_in texts

told_are : {A : Type 0} (as_json : Bool) (names : List (String A)) → told_names as_json names ≡ told_in as_json (map string_bytes names)
told_are true names = ap (λ items. line_of (compact_text (array (items_of items)))) (strings_are names)
told_are false names = lines_are names

pub same_told : {A B : Type 0} (as_json : Bool) (names : BTreeSet (String A)) (others : BTreeSet (String B)) → IsOrdered string_cmp names
    → IsOrdered string_cmp others → ((name : List ℕ) → IsTrue (contains_text names name) ↔ IsTrue (contains_text others name))
    → told_names as_json names.keys ≡ told_names as_json others.keys
same_told as_json names others ordered ascend same =
    told_are as_json names.keys
    ∙ ap (told_in as_json) (same_texts names others ordered ascend (λ name. both_or_none (contains_text names name) (contains_text others name) (same name)))
    ∙ sym (told_are as_json others.keys)
