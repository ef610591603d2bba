-- JSON that means nothing to HTML.
use Rattle.std.specs.Prelude.{ℕ, ◌==◌, List, [], ◌∷◌, codes, if◌then◌else◌}
use Rattle.std.specs.List.{flat_map}

-- what stands for a byte that may mean something to HTML: <, >, & and '
abbrev pub unmarked_byte : ℕ → List ℕ
unmarked_byte c =
    if c == 60 then codes "\\u003c"
    else (if c == 62 then codes "\\u003e"
    else (if c == 38 then codes "\\u0026"
    else (if c == 39 then codes "\\u0027"
    else c ∷ [])))

abbrev pub unmarked : List ℕ → List ℕ
unmarked = flat_map unmarked_byte
