-- What the bytes of a source count for.
use Rattle.std.specs.Prelude.{◌≡◌, ℕ, ◌+◌, Bool, ◌||◌, ◌&&◌, ◌==◌, nat_lt, nat_le, if◌then◌else◌, List, length, fold, count_by}

abbrev pub is_newline : ℕ → Bool
is_newline b = b == 10

-- a character begins with the byte: each byte of a text but those from 128 to 191
abbrev pub begins_character : ℕ → Bool
begins_character b = nat_lt b 128 || nat_le 192 b

abbrev pub is_between : ℕ → ℕ → ℕ → Bool
is_between low high b = nat_le low b && nat_le b high

-- a column counts characters, and each newline begins anew
abbrev pub next_column : ℕ → ℕ → ℕ
next_column column b = if is_newline b then 0 else if begins_character b then column + 1 else column

-- the bytes begin no line, and each is a character of its own
pub record ArePlain (s : List ℕ) : Type 0 where
  pub lines : count_by is_newline s ≡ 0
  pub columns : (column : ℕ) → fold next_column column s ≡ column + length s
