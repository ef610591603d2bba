-- Texts with single spaces.
use Rattle.std.specs.Prelude.{ℕ, ◌==◌, not, List, [], ◌∷◌, length, chars, encode_utf8_all}
use Rattle.std.specs.Char.{is_whitespace}
use Rattle.std.specs.List.{filter, flat_map, join_by, slice_split}

-- what stands between white space, where that is something
abbrev pub words : List ℕ → List (List ℕ)
words cs = filter (λ word. not (length word == 0)) (slice_split is_whitespace cs)

-- the words of a text, with a space between
unfoldable pub single_spaced : List ℕ → List ℕ
single_spaced s = join_by encode_utf8_all (32 ∷ []) (words (chars s))

-- the words of a text, each behind a space
unfoldable pub spaced : List ℕ → List ℕ
spaced s = flat_map (λ word. 32 ∷ encode_utf8_all word) (words (chars s))
