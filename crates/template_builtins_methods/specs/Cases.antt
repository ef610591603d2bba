-- Texts with letters in another case.
use Rattle.std.specs.Prelude.{ℕ, Bool, true, not, ◌||◌, List, [], ◌∷◌, ◌++◌, chars, encode_utf8_all, flat_map, if◌then◌else◌}
use Rattle.std.specs.Char.Unicode.Lowercase.{is_lowercase}
use Rattle.std.specs.Char.Unicode.Uppercase.{is_uppercase}
use Rattle.std.specs.Char.Unicode.ToLowercase.{to_lowercase}
use Rattle.std.specs.Char.Unicode.ToUppercase.{to_uppercase}
use Rattle.template_builtins_texts.specs.Cases.{title_char}

-- a letter of upper or lower case
abbrev pub has_case : ℕ → Bool
has_case c = is_lowercase c || is_uppercase c

abbrev pub begins_behind : ℕ → Bool
begins_behind c = not (has_case c)

-- each letter behind one that has a case in lower case, each other one in upper
abbrev pub title_chars : Bool → List ℕ → List ℕ
title_chars begins [] = []
title_chars begins (c ∷ cs) = title_char begins c ++ title_chars (begins_behind c) cs

unfoldable pub titled_from : Bool → List ℕ → List ℕ
titled_from begins s = encode_utf8_all (title_chars begins (chars s))

abbrev pub titled : List ℕ → List ℕ
titled s = titled_from true s

-- upper case in lower, lower case in upper
abbrev pub swapped_char : ℕ → List ℕ
swapped_char c = if is_uppercase c then to_lowercase c else (if is_lowercase c then to_uppercase c else c ∷ [])

unfoldable pub swapped : List ℕ → List ℕ
swapped s = encode_utf8_all (flat_map swapped_char (chars s))
