-- The words of a text: longest stretches of letters, digits and underscores.
use Rattle.std.specs.Prelude.{ℕ, ◌+◌, ◌==◌, ◌&&◌, ◌||◌, Bool, false, not, List, [], ◌∷◌, chars, if◌then◌else◌}
use Rattle.std.specs.Char.Unicode.Alphabetic.{is_alphabetic}
use Rattle.std.specs.Char.Unicode.Numeric.{is_numeric}

-- a letter, a digit or an underscore
abbrev pub is_word_character : ℕ → Bool
is_word_character c = is_alphabetic c || (is_numeric c || c == 95)

-- a word begins at such a character, unless one goes on before it
abbrev pub begins_word : Bool → ℕ → Bool
begins_word inside c = is_word_character c && not inside

-- how many words begin at characters, where one goes on before them or not
abbrev pub words_begun : Bool → List ℕ → ℕ
words_begun inside [] = 0
words_begun inside (c ∷ cs) = (if begins_word inside c then 1 else 0) + words_begun (is_word_character c) cs

unfoldable pub words_from : Bool → List ℕ → ℕ
words_from inside s = words_begun inside (chars s)

abbrev pub word_count : List ℕ → ℕ
word_count s = words_from false s
