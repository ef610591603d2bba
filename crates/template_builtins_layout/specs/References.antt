-- References in texts, and the characters that they stand for.
use Rattle.std.specs.Prelude.{ℕ, ◌==◌, ◌||◌, Bool, true, false, List, [], ◌∷◌, ◌++◌, length, codes, bytes_eq, Option, None, Some, if◌then◌else◌}
use Rattle.std.specs.List.{after_first, before_first, flat_map, position_or_len, slice_split}

-- the character that a name stands for
abbrev pub character_named : List ℕ → Option (List ℕ)
character_named name =
    if bytes_eq name (codes "lt") then Some (codes "<")
    else (if bytes_eq name (codes "gt") then Some (codes ">")
    else (if bytes_eq name (codes "amp") then Some (codes "&")
    else (if bytes_eq name (codes "quot") || bytes_eq name (codes "#34") then Some (codes "\"")
    else (if bytes_eq name (codes "#39") || bytes_eq name (codes "#x27") then Some (codes "'")
    else (if bytes_eq name (codes "#x2f") then Some (codes "/")
    else None)))))

-- a character and what is behind its name, or all behind the ampersand
abbrev pub in_place : Option (List ℕ) → List ℕ → List ℕ
in_place None part = 38 ∷ part
in_place (Some c) part = c ++ after_first (λ b. b == 59) part

-- What stands behind an ampersand: where the name up to the first semicolon stands for a character, that, and what is behind it.
unfoldable pub referred : List ℕ → List ℕ
referred part =
    if position_or_len (λ b. b == 59) part == length part then 38 ∷ part
    else in_place (character_named (before_first (λ b. b == 59) part)) part

-- a part of a text, which stands behind an ampersand or not
abbrev pub part_after : Bool → List ℕ → List ℕ
part_after true part = referred part
part_after false part = part

-- parts of a text, of which the first stands behind an ampersand or not, and the others do
abbrev pub parts_from : Bool → List (List ℕ) → List ℕ
parts_from behind [] = []
parts_from behind (part ∷ parts) = part_after behind part ++ flat_map referred parts

-- the parts are what stands between ampersands
unfoldable pub unescaped_from : Bool → List ℕ → List ℕ
unescaped_from behind s = parts_from behind (slice_split (λ b. b == 38) s)

abbrev pub unescaped : List ℕ → List ℕ
unescaped s = unescaped_from false s
