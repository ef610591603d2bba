-- The words of a text: what stands between white space.
use Rattle.std.specs.Prelude.{ℕ, zero, suc, List, [], ◌∷◌, map, reverse, chars, encode_utf8_all, if◌then◌else◌}
use Rattle.std.specs.Char.{is_whitespace}
use Rattle.std.specs.Str.{skip_leading_whitespace, drop_trailing_whitespace}

-- the characters up to the first white space, and those behind it
abbrev pub first_word : List ℕ → List ℕ
first_word [] = []
first_word (c ∷ cs) = if is_whitespace c then [] else c ∷ first_word cs

abbrev pub behind_word : List ℕ → List ℕ
behind_word [] = []
behind_word (c ∷ cs) = if is_whitespace c then cs else behind_word cs

-- the characters behind the last white space, and those before it
abbrev pub last_word : List ℕ → List ℕ
last_word cs = reverse (first_word (reverse cs))

abbrev pub before_word : List ℕ → List ℕ
before_word cs = reverse (behind_word (reverse cs))

-- the words, after so many cuts at most: what is left then is one more, if there is anything
abbrev pub words_from : ℕ → List ℕ → List (List ℕ)
words_from n [] = []
words_from zero (c ∷ cs) = (c ∷ cs) ∷ []
words_from (suc n) (c ∷ cs) = first_word (c ∷ cs) ∷ words_from n (skip_leading_whitespace (behind_word (c ∷ cs)))

-- the same from the end, the last word first
abbrev pub words_back : ℕ → List ℕ → List (List ℕ)
words_back n [] = []
words_back zero (c ∷ cs) = (c ∷ cs) ∷ []
words_back (suc n) (c ∷ cs) = last_word (c ∷ cs) ∷ words_back n (drop_trailing_whitespace (before_word (c ∷ cs)))

-- the words of a text, after so many cuts from the left at most, or from the right
unfoldable pub words : ℕ → List ℕ → List (List ℕ)
words n s = map encode_utf8_all (words_from n (skip_leading_whitespace (chars s)))

unfoldable pub last_words : ℕ → List ℕ → List (List ℕ)
last_words n s = reverse (map encode_utf8_all (words_back n (drop_trailing_whitespace (chars s))))
