-- A text cut from the right, at the places where another stands.
use Rattle.std.specs.Prelude.{ℕ, zero, suc, ◌+◌, List, [], ◌∷◌, length, take, drop, bytes_eq, Option, None, Some, reverse, if◌then◌else◌}

-- a place in the rest, else the one here
abbrev pub later : Option ℕ → Option ℕ → Option ℕ
later None here = here
later (Some i) here = Some (suc i)

-- the last place where a text stands in another
abbrev pub last_place : List ℕ → List ℕ → Option ℕ
last_place old [] = None
last_place old (b ∷ bs) = later (last_place old bs) (if bytes_eq old (take (length old) (b ∷ bs)) then Some 0 else None)

-- the part behind a place, and what is made of the rest before it
abbrev pub cut_before : (List ℕ → List (List ℕ)) → List ℕ → List ℕ → Option ℕ → List (List ℕ)
cut_before f old s None = s ∷ []
cut_before f old s (Some i) = drop (i + length old) s ∷ f (take i s)

-- the parts of a text between the places where another stands, from the right, the last one first, after so many cuts at most
abbrev pub parts_back : List ℕ → ℕ → List ℕ → List (List ℕ)
parts_back old zero s = s ∷ []
parts_back old (suc n) s = cut_before (parts_back old n) old s (last_place old s)

abbrev pub last_parts : List ℕ → ℕ → List ℕ → List (List ℕ)
last_parts old n s = reverse (parts_back old n s)
