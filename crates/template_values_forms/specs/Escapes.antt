-- What stands for a byte of a text. Bytes past 127 are parts of characters that stand for themselves.
use Rattle.std.specs.Prelude.{ℕ, ◌/◌, ◌%◌, List, [], ◌∷◌, ◌++◌, if◌then◌else◌, nat_lt, ◌==◌, ◌||◌, codes}
use Rattle.std.specs.List.{flat_map}
use Rattle.std.specs.Char.{digit_char}

-- references for what HTML reads as markup
abbrev pub html_byte : ℕ → List ℕ
html_byte c =
    if c == 60 then codes "&lt;"
    else (if c == 62 then codes "&gt;"
    else (if c == 38 then codes "&amp;"
    else (if c == 34 then codes "&quot;"
    else (if c == 39 then codes "&#x27;"
    else (if c == 47 then codes "&#x2f;"
    else c ∷ [])))))

abbrev pub html : List ℕ → List ℕ
html = flat_map html_byte

-- the hexadecimal digits of a byte, in lower case, without leading zeros
abbrev pub hexadecimal : ℕ → List ℕ
hexadecimal c = (if nat_lt c 16 then [] else digit_char (c / 16) ∷ []) ++ digit_char (c % 16) ∷ []

abbrev pub control_escape : ℕ → List ℕ
control_escape c = codes "\\u{" ++ (hexadecimal c ++ codes "}")

-- what stands for a byte between quotes
abbrev pub quoted_byte : ℕ → List ℕ
quoted_byte c =
    if c == 92 then codes "\\\\"
    else (if c == 34 then codes "\\\""
    else (if c == 10 then codes "\\n"
    else (if c == 13 then codes "\\r"
    else (if c == 9 then codes "\\t"
    else (if nat_lt c 32 || c == 127 then control_escape c
    else c ∷ [])))))

abbrev pub quoted : List ℕ → List ℕ
quoted s = codes "\"" ++ (flat_map quoted_byte s ++ codes "\"")

-- bytes that are no text: U+FFFD stands for each byte past 127
abbrev pub replaced_byte : ℕ → List ℕ
replaced_byte c = if nat_lt c 128 then c ∷ [] else 0xEF ∷ 0xBF ∷ 0xBD ∷ []
