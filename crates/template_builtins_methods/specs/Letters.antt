-- What the characters of a text are.
use Rattle.std.specs.Prelude.{ℕ, ◌==◌, ◌&&◌, ◌||◌, Bool, not, List, length, chars}
use Rattle.std.specs.Char.{is_whitespace}
use Rattle.std.specs.Char.Unicode.Alphabetic.{is_alphabetic}
use Rattle.std.specs.Char.Unicode.Numeric.{is_numeric}
use Rattle.std.specs.List.{list_all}
use Rattle.template_builtins_tests.specs.Letters.{has_lower, has_upper}

-- there is one, and each is so
abbrev pub all_are : (ℕ → Bool) → List ℕ → Bool
all_are p s = not (length s == 0) && list_all p (chars s)

abbrev pub are_digits : List ℕ → Bool
are_digits = all_are is_numeric

abbrev pub are_letters : List ℕ → Bool
are_letters = all_are is_alphabetic

abbrev pub are_letters_or_digits : List ℕ → Bool
are_letters_or_digits = all_are (λ c. is_alphabetic c || is_numeric c)

abbrev pub are_spaces : List ℕ → Bool
are_spaces = all_are is_whitespace

-- with a letter of that case and none of the other
abbrev pub are_lower : List ℕ → Bool
are_lower s = has_lower s && not (has_upper s)

abbrev pub are_upper : List ℕ → Bool
are_upper s = has_upper s && not (has_lower s)
