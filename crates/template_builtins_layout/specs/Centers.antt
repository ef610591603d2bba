-- Texts in the middle of a width.
use Rattle.std.specs.Prelude.{ℕ, ◌+◌, ◌-◌, ◌/◌, ◌%◌, ◌==◌, ◌&&◌, List, ◌++◌, length, chars, codes, if◌then◌else◌}
use Rattle.std.specs.List.{repeat}

-- so many spaces
abbrev pub spaces : ℕ → List ℕ
spaces n = repeat n (codes " ")

-- Of the spaces that are left of a width half stand before a text; an odd one does where the width is odd, else it stands behind.
abbrev pub spaces_before : ℕ → ℕ → ℕ
spaces_before width left = if left % 2 == 1 && width % 2 == 1 then left / 2 + 1 else left / 2

-- a text between so many spaces before it, and the others
abbrev pub between_spaces : ℕ → ℕ → List ℕ → List ℕ
between_spaces before left s = spaces before ++ (s ++ spaces (left - before))

-- a text in the middle of so many characters
unfoldable pub centered : ℕ → List ℕ → List ℕ
centered width s = between_spaces (spaces_before width (width - length (chars s))) (width - length (chars s)) s
