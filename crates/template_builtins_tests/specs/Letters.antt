-- Texts of letters of one case.
use Rattle.std.specs.Prelude.{ℕ, Bool, false, ◌&&◌, not, List}
use Rattle.std.specs.Char.Unicode.Lowercase.{is_lowercase}
use Rattle.std.specs.Char.Unicode.Uppercase.{is_uppercase}
use Rattle.std.specs.List.{list_any}
use Rattle.std.specs.Str.{chars}
use Rattle.template_values_model.specs.Val.{Val, text, safe_text}

-- a letter of that case stands in the text
abbrev pub has_lower : List ℕ → Bool
has_lower s = list_any is_lowercase (chars s)

abbrev pub has_upper : List ℕ → Bool
has_upper s = list_any is_uppercase (chars s)

-- a text with a letter of that case and none of the other
abbrev pub is_lower : Val → Bool
is_lower (text s) = has_lower s && not (has_upper s)
is_lower (safe_text s) = has_lower s && not (has_upper s)
is_lower _ = false

abbrev pub is_upper : Val → Bool
is_upper (text s) = has_upper s && not (has_lower s)
is_upper (safe_text s) = has_upper s && not (has_lower s)
is_upper _ = false
