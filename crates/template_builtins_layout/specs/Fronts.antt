-- The first characters of a text.
use Rattle.std.specs.Prelude.{ℕ, ◌-◌, ◌==◌, Bool, List, [], ◌∷◌, length, take, chars, encode_utf8_all, Option, None, Some, option_map, unwrap_or, if◌then◌else◌}
use Rattle.std.specs.Option.{option_or}

-- what stands before the last space
abbrev pub before_space : List ℕ → Option (List ℕ)
before_space [] = None
before_space (b ∷ bs) = option_or (option_map (λ front. b ∷ front) (before_space bs)) (if b == 32 then Some [] else None)

-- the same, or all where there is none
abbrev pub before_last_space : List ℕ → List ℕ
before_last_space s = unwrap_or (before_space s) s

abbrev pub first_characters : ℕ → List ℕ → List ℕ
first_characters n s = encode_utf8_all (take n (chars s))

-- so many first characters less those of an end, cut off at their last space unless words may be cut
unfoldable pub front_of : Bool → ℕ → List ℕ → List ℕ → List ℕ
front_of killwords n end s =
    if killwords then first_characters (n - length (chars end)) s
    else before_last_space (first_characters (n - length (chars end)) s)
