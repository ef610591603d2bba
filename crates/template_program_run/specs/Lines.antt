-- Texts, one a line, or as a JSON list on one line.
use Rattle.std.specs.Prelude.{ℕ, Bool, List, [], ◌∷◌, ◌++◌, map, String, string_bytes, if◌then◌else◌}
use Rattle.serde_json.specs.Data.{Data, array, string}
use Rattle.serde_json.specs.View.{items_of}
use Rattle.serde_json.specs.Written.{compact_text}

abbrev pub line_of : List ℕ → List ℕ
line_of text = text ++ 10 ∷ []

abbrev pub lines_of : {A : Type 0} → List (String A) → List ℕ
lines_of [] = []
lines_of (text ∷ texts) = line_of (string_bytes text) ++ lines_of texts

-- texts as data of JSON
abbrev pub strings_of : {A : Type 0} → List (String A) → List Data
strings_of texts = map (λ text. string (string_bytes text)) texts

abbrev pub json_line_of : {A : Type 0} → List (String A) → List ℕ
json_line_of texts = line_of (compact_text (array (items_of (strings_of texts))))

-- names as they are told
abbrev pub told_names : {A : Type 0} → Bool → List (String A) → List ℕ
told_names as_json names = if as_json then json_line_of names else lines_of names
