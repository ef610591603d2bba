-- The lines of what a check finds. Contracts do not see places.
use Rattle.std.specs.Prelude.{◌≡◌, ℕ, List, [], ◌∷◌, ◌++◌, codes}
use Rattle.template_values_errors.specs.Names.{kind_name, kinds_text}
use Rattle.template_values_errors.specs.declared.ErrorKind.{ErrorKind}

-- some place, a colon, and the kinds of a refusal
abbrev pub IsRefusalLine : List ErrorKind → List ℕ → Type 0
IsRefusalLine kinds line = (place : List ℕ) × (line ≡ place ++ (codes ": " ++ (kinds_text kinds ++ 10 ∷ [])))

-- some place, a colon, the kind of what has no such name, and the name
abbrev pub IsNameLine : ErrorKind → List ℕ → List ℕ → Type 0
IsNameLine kind name line =
    (place : List ℕ) × (line ≡ place ++ (codes ": " ++ (kind_name kind ++ 32 ∷ (name ++ 10 ∷ []))))
