-- Names by their bytes.
use Rattle.std.proofs.Common.{◌≡◌, ℕ, zero, suc, List, [], ◌∷◌, get_or, refl, ap, arith, String, string_bytes}
use Rattle.std.specs.declared.alloc.Global.{Global}
use Rattle.std.specs.List.{All, AllByRecursion, Contains}
use Rattle.std.specs.List.Sorted.{IsStrictlySortedBy}
use Rattle.std.specs.Cmp.Lexicographic.{slice_cmp}
use Rattle.std.specs.Ordering.{nat_cmp}
use Rattle.std.specs.declared.cmp.Ordering.TheVariants.{Less}
use Rattle.std.specs.String.{string_cmp}
use Rattle.std.proofs.lemmas.List.Elements.{All-contains, Contains-get_or}
use Rattle.template_program_files.specs.Views.{names_in}

below_names : (x : String Global) (ys : List (String Global)) → AllByRecursion (λ y. string_cmp x y ≡ Less) ys
    → AllByRecursion (λ b. slice_cmp nat_cmp (string_bytes x) b ≡ Less) (names_in ys)
below_names x [] h = h
below_names x (y ∷ ys) h = (h.0, below_names x ys (h.1))

-- names that ascend do so by their bytes
pub names_ascend : (xs : List (String Global)) → IsStrictlySortedBy string_cmp xs → IsStrictlySortedBy (slice_cmp nat_cmp) (names_in xs)
unfolding IsStrictlySortedBy
names_ascend [] h = h
names_ascend (x ∷ xs) h = (below_names x xs (h.0), names_ascend xs (h.1))

-- one of a list is one of a longer list
pub among_more : {X : Type 0} (x : X) (xs : List X) (y : X) → Contains xs y → Contains (x ∷ xs) y
among_more x xs y (k, h, e) = (suc k, omega arith, e)

pub among_first : {X : Type 0} (x : X) (xs : List X) → Contains (x ∷ xs) x
among_first x xs = (0, omega arith, refl)

-- a name is that of a text, and the other way round
pub text_of_name : (xs : List (String Global)) (name : List ℕ) → Contains (names_in xs) name
    → (x : String Global) × Contains xs x × (string_bytes x ≡ name)
text_of_name [] name (k, h, e) = absurd (omega arith)
text_of_name (x ∷ xs) name (zero, h, e) = (x, among_first x xs, e)
text_of_name (x ∷ xs) name (suc k, h, e) =
    let found = text_of_name xs name (k, omega arith, e) in
    (found.0, among_more x xs (found.0) (found.1), found.2)

pub name_of_text : (xs : List (String Global)) (x : String Global) → Contains xs x → Contains (names_in xs) (string_bytes x)
name_of_text [] x (k, h, e) = absurd (omega arith)
name_of_text (y ∷ xs) x (zero, h, e) = (0, omega arith, ap string_bytes e)
name_of_text (y ∷ xs) x (suc k, h, e) = among_more (string_bytes y) (names_in xs) (string_bytes x) (name_of_text xs x (k, omega arith, e))

-- what holds of each of a list holds of each among them
pub all_among : {X : Type 0} (P : X → Type 0) (xs ys : List X) → ((x : X) → Contains ys x → Contains xs x) → All P xs → All P ys
all_among P xs ys among all = λ k d h. All-contains P xs (get_or ys k d) all (among (get_or ys k d) (Contains-get_or ys k d h))
