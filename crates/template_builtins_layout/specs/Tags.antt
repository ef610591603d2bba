-- Texts without what stands from a start to an end: a tag.
use Rattle.std.specs.Prelude.{◌≡◌, ℕ, zero, suc, ◌+◌, List, [], ◌∷◌, ◌++◌, length, take, drop, bytes_eq, Option, None, Some, option_and_then, option_map, MatchOption, if◌then◌else◌}
use Rattle.std.specs.Borrow.{Bor}

-- the first place where a text stands in another
abbrev pub place_of : List ℕ → List ℕ → Option ℕ
place_of sought [] = None
place_of sought (b ∷ bs) =
    if bytes_eq sought (take (length sought) (b ∷ bs)) then Some 0 else option_map (λ i. suc i) (place_of sought bs)

-- what is before that place, and what is behind the text that stands there
abbrev pub around : List ℕ → List ℕ → Option (List ℕ × List ℕ)
around sought s = option_map (λ i. (take i s, drop (i + length sought) s)) (place_of sought s)

-- what is before the first start, and what is behind the first end behind that
abbrev pub around_tag : List ℕ → List ℕ → List ℕ → Option (List ℕ × List ℕ)
around_tag start finish s =
    option_and_then (λ parts. option_map (λ ends. (parts.0, ends.1)) (around finish parts.1)) (around start s)

-- a call gives that
abbrev pub Gives : Option (Bor (List ℕ) × Bor (List ℕ)) → Option (List ℕ × List ℕ) → Type 0
Gives result found = MatchOption result (found ≡ None) (λ parts. found ≡ Some (parts.0.now, parts.1.now))

-- what is before a tag, and what is made of the rest behind it; all where there is none
abbrev pub skipped : (List ℕ → List ℕ) → List ℕ → Option (List ℕ × List ℕ) → List ℕ
skipped f s None = s
skipped f s (Some parts) = parts.0 ++ f parts.1

-- a text without its tags, from the left, so many at most
abbrev pub without_up_to : ℕ → List ℕ → List ℕ → List ℕ → List ℕ
without_up_to zero start finish s = s
without_up_to (suc n) start finish s = skipped (without_up_to n start finish) s (around_tag start finish s)

-- there are no more of these than bytes
unfoldable pub without : List ℕ → List ℕ → List ℕ → List ℕ
without start finish s = without_up_to (length s) start finish s
