-- What the input has among the documents of the context.
use Rattle.std.proofs.Common.{◌≡◌, ◌||◌, ◌++◌, ◌<◌, ◌+◌, ℕ, Bool, List, [], ◌∷◌, IfSome, Option, ap, get_or, length, map, refl, subst, sym, take, true}
use Rattle.std.proofs.lemmas.List.{map_more, map_push}
use Rattle.std.specs.List.{AllZip, list_any}
use Rattle.template_program_contexts.specs.declared.documents.Form.{Form}
use Rattle.template_program_run.specs.Origins.{AreFrom, Origin, file, hold_input, input}

-- what is told of the input matters only where it is among the origins
pub from_other : (content : List ℕ → Option (List ℕ)) (a b : Option (List ℕ)) (origins : List Origin) (documents : List (Form × List ℕ))
    → (hold_input origins ≡ true → (bytes : List ℕ) → IfSome a (λ all. bytes ≡ all) → IfSome b (λ all. bytes ≡ all))
    → AreFrom content a origins documents → AreFrom content b origins documents
from_other content a b [] [] follows all = tt
from_other content a b [] (d ∷ ds) follows all = absurd all
from_other content a b (o ∷ os) [] follows all = absurd all
from_other content a b (file path form ∷ os) (d ∷ ds) follows (at, rest) = (at, from_other content a b os ds follows rest)
from_other content a b (input ∷ os) (d ∷ ds) follows ((form, is), rest) =
    ((form, follows refl d.1 is), from_other content a b os ds (λ _. follows refl) rest)

-- whether one of them is so, told of what they are seen as
pub any_seen : {A B : Type 0} (test : B → Bool) (seen : A → B) (xs : List A) → list_any (λ x. test (seen x)) xs ≡ list_any test (map seen xs)
any_seen test seen [] = refl
any_seen test seen (x ∷ xs) = ap (λ b. test (seen x) || b) (any_seen test seen xs)

pushed : {A B : Type 0} (R : A → B → Type 0) (xs : List A) (ys : List B) (x : A) (y : B) → AllZip R xs ys → R x y
    → AllZip R (xs ++ x ∷ []) (ys ++ y ∷ [])
pushed R [] [] x y all one = (one, tt)
pushed R [] (b ∷ ys) x y all one = absurd all
pushed R (a ∷ xs) [] x y all one = absurd all
pushed R (a ∷ xs) (b ∷ ys) x y all one = (all.0, pushed R xs ys x y all.1 one)

-- one more of each
pub one_more : {A B C D : Type 0} (R : C → D → Type 0) (f : A → C) (h : B → D) (xs : List A) (i : ℕ) (x : A) (ys : List B) (y : B)
    → i < length xs → AllZip R (map f (take i xs)) (map h ys) → R (f (get_or xs i x)) (h y)
    → AllZip R (map f (take (i + 1) xs)) (map h (ys ++ y ∷ []))
one_more {A} {B} {C} {D} R f h xs i x ys y within all one =
    subst (λ (cs : List C). AllZip R cs (map h (ys ++ y ∷ []))) (sym (map_more f xs i x within))
    (subst (λ (ds : List D). AllZip R (map f (take i xs) ++ f (get_or xs i x) ∷ []) ds) (sym (map_push h ys y))
    (pushed R (map f (take i xs)) (map h ys) (f (get_or xs i x)) (h y) all one))
