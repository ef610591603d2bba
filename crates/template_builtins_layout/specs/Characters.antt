-- The first character of a text.
use Rattle.std.specs.Prelude.{◌≡◌, ℕ, List, ◌++◌}
use Rattle.std.specs.Char.{encode_utf8}

-- a text is a character, spelled so, and what is behind it
abbrev pub BeginsWith : List ℕ → List ℕ → List ℕ → Type 0
BeginsWith s first rest = (c : ℕ) × (first ≡ encode_utf8 c) × (s ≡ encode_utf8 c ++ rest)
